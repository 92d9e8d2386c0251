-- One return for each of the three things to look at and one for any other letter; the lent parts of table and roll lie within them, so that they can be read.
use Rattle.std.proofs.Common.{refl, arith}
use Rattle.replay.proofs.KindLaws.{look_ledger, look_rows, look_memory, look_other}
use Rattle.replay.proofs.TurnLaws.{plays_as, plays, plays_broken}
use Rattle.replay.proofs.run_look.Goals as goal

pub returns-in-76 : goal.returns-in-76
returns-in-76 c = plays_as (look_ledger _ _ _ _ c.in-76.is) (plays (omega arith) refl c.requires c.put_ledger.ensures)

pub returns-in-82 : goal.returns-in-82
returns-in-82 c = plays_as (look_rows _ _ _ _ c.in-82.is) (plays (omega arith) refl c.requires c.put_all_rows.ensures)

pub returns-in-77 : goal.returns-in-77
returns-in-77 c = plays_as (look_memory _ _ _ _ c.in-77.is) (plays (omega arith) refl c.requires c.put_memory.ensures)

pub returns-in_default : goal.returns-in_default
returns-in_default c = plays_as (look_other _ _ _ _ (λ e. omega arith) (λ e. omega arith) (λ e. omega arith)) (plays_broken c.break_off.ensures.state_value c.break_off.ensures.wrote)
