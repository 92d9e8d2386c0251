use mathlib.Core.Path.{refl}
use native.Mathlib.Omega.{arith}
use Rattle.text.proofs.PenLaws.{text_as}
use Rattle.day.proofs.LineLaws.{tally_as}
use Rattle.day.proofs.put_tally.Goals as goal

pub returns : goal.returns
returns c = text_as (omega arith) (tally_as _ refl refl refl) c.put_three.ensures
