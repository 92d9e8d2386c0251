use native.Mathlib.Omega.{arith}
use Rattle.text.proofs.PenLaws.{text_as}
use Rattle.day.specs.Lines.{yes_or_no}
use Rattle.day.proofs.put_yes_or_no.Goals as goal

pub returns-then-yes : goal.returns-then-yes
unfolding yes_or_no
returns-then-yes c = text_as (omega arith) (rw c.if-yes.true) c.put.ensures

pub returns-else-yes : goal.returns-else-yes
unfolding yes_or_no
returns-else-yes c = text_as (omega arith) (rw c.if-yes.false) c.put-else-yes.ensures
