use Rattle.std.proofs.Common.{refl, arith}
use Rattle.replay.proofs.KindLaws.{name_short, name_long}
use Rattle.replay.proofs.TurnLaws.{plays_as, plays, plays_broken}
use Rattle.replay.proofs.run_name.Goals as goal

pub returns-then-body-le100 : goal.returns-then-body-le100
returns-then-body-le100 c = plays_as (name_short _ _ _ _ c.if-body-le100.true) (plays (omega (arith, c.if-body-le100.true)) refl c.requires c.put_name_line.ensures)

pub returns : goal.returns
returns c = plays_as (name_long _ _ _ _ c.if-body-le100.false) (plays_broken c.break_off.ensures.state_value c.break_off.ensures.wrote)
