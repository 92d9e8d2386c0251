use Rattle.std.proofs.Common.{refl, arith}
use Rattle.replay.proofs.KindLaws.{seal_whole, seal_broken}
use Rattle.replay.proofs.TurnLaws.{plays_as, plays, plays_broken}
use Rattle.replay.proofs.run_seal.Goals as goal

pub returns-then-body-eq41 : goal.returns-then-body-eq41
returns-then-body-eq41 c = plays_as (seal_whole 83 _ _ _ _ c.if-body-eq41.true) (plays (omega arith) refl c.requires c.put_seal.ensures)

pub returns : goal.returns
returns c = plays_as (seal_broken 83 _ _ _ _ c.if-body-eq41.false) (plays_broken c.break_off.ensures.state_value c.break_off.ensures.wrote)
