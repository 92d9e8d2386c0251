use mathlib.Core.Path.{refl}
use native.Mathlib.Omega.{arith}
use Rattle.text.specs.Answers.{answer_line}
use Rattle.text.proofs.PenLaws.{then, text_as}
use Rattle.text.proofs.Page.put_answer_line.Goals as goal

pub returns : goal.returns
unfolding answer_line
returns g c = text_as (omega arith) refl (then c.put_answer.ensures c.put.ensures)
