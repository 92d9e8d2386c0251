use mathlib.Core.Path.{refl}
use native.Mathlib.Omega.{arith}
use Rattle.text.proofs.PenLaws.{then, text_as}
use Rattle.day.specs.Lines.{from_lines}
use Rattle.day.proofs.put_from.Goals as goal

pub returns : goal.returns
unfolding from_lines
returns c = text_as (omega arith) refl (then c.put_both_in_place.ensures c.put_both_by_value.ensures)
