use native.Mathlib.Omega.{arith}
use Rattle.text.proofs.PenLaws.{then, text_as}
use Rattle.day.proofs.LineLaws.{count_as}
use Rattle.day.proofs.put_counted.Goals as goal

pub returns : goal.returns
returns c = text_as (omega arith) (count_as _) (then c.put.ensures (then c.put_yes_or_no.ensures (then c.put-2.ensures c.put_tally.ensures)))
