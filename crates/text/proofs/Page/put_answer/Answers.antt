use native.Mathlib.Omega.{arith}
use Rattle.text.proofs.AnswerLaws.{answer_as}
use Rattle.text.proofs.PenLaws.{then, text_as}
use Rattle.text.proofs.Page.put_answer.Goals as goal

pub returns : goal.returns
returns g c = text_as (omega arith) (answer_as _ _ _ _ c.from.ensures c.from-2.ensures) (then c.put.ensures (then c.put_count.ensures c.put_count-2.ensures))
