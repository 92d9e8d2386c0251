use native.Mathlib.Omega.{arith}
use Rattle.text.proofs.PenLaws.{text_as}
use Rattle.scanning.specs.Lines.{case_text}
use Rattle.scanning.proofs.put_case.Goals as goal

pub returns-then-rows : goal.returns-then-rows
unfolding case_text
returns-then-rows c = text_as (omega arith) (rw c.if-rows.true) c.put_answer_and_row.ensures

pub returns-else-rows : goal.returns-else-rows
unfolding case_text
returns-else-rows c = text_as (omega arith) (rw c.if-rows.false) c.put_answer_line.ensures
