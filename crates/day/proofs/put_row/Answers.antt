use mathlib.Core.Path.{refl}
use native.Mathlib.Omega.{arith}
use Rattle.text.proofs.PenLaws.{text_as}
use Rattle.day.proofs.LineLaws.{row_as}
use Rattle.day.proofs.put_row.Goals as goal

pub returns : goal.returns
returns c = text_as (omega arith) (row_as _ refl c.from.ensures c.from-2.ensures) c.put_three.ensures
