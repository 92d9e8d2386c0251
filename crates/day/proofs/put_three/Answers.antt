use native.Mathlib.Omega.{arith}
use Rattle.text.proofs.PenLaws.{then, text_as}
use Rattle.day.proofs.LineLaws.{three_as}
use Rattle.day.proofs.put_three.Goals as goal

pub returns : goal.returns
returns c = text_as (omega arith) (three_as _ _ _ _ c.from.ensures c.from-2.ensures c.from-3.ensures) (then c.put.ensures (then c.put_count.ensures (then c.put_count-2.ensures (then c.put_count-3.ensures c.put-2.ensures))))
