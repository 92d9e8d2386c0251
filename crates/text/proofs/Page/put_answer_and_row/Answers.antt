use mathlib.Core.Path.{refl}
use native.Mathlib.Omega.{arith}
use Rattle.text.specs.Answers.{answer_and_row}
use Rattle.text.proofs.PenLaws.{then, text_as}
use Rattle.text.proofs.Page.put_answer_and_row.Goals as goal

pub returns : goal.returns
unfolding answer_and_row
returns g c = text_as (omega arith) refl (then c.put_answer_line.ensures c.put_spent_row.ensures)
