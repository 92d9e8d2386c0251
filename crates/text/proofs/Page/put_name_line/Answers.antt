use native.Mathlib.Omega.{arith}
use Rattle.text.proofs.AnswerLaws.{name_as}
use Rattle.text.proofs.PenLaws.{then, text_as}
use Rattle.text.proofs.Page.put_name_line.Goals as goal

pub returns : goal.returns
returns g c = text_as (omega arith) (name_as _) (then c.put.ensures (then c.put-2.ensures c.put-3.ensures))
