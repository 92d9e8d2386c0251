use Rattle.std.proofs.Common.{arith}
use Rattle.replay.proofs.KindLaws.{bare_fresh, bare_block, bare_other}
use Rattle.replay.proofs.TurnLaws.{plays_as}
use Rattle.replay.proofs.run_bare.Goals as goal

pub returns-in-70 : goal.returns-in-70
returns-in-70 c = plays_as (bare_fresh _ _ _ _ c.in-70.is) c.run_fresh.ensures

pub returns-in-66 : goal.returns-in-66
returns-in-66 c = plays_as (bare_block _ _ _ _ c.in-66.is) c.run_block.ensures

pub returns-in_default : goal.returns-in_default
returns-in_default c = plays_as (bare_other _ _ _ _ (λ e. omega arith) (λ e. omega arith)) c.run_look.ensures
