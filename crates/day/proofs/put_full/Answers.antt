use mathlib.Core.List.{append_assoc}
use native.Mathlib.Omega.{arith}
use Rattle.text.proofs.PenLaws.{then, text_as}
use Rattle.day.specs.Lines.{full_lines}
use Rattle.day.proofs.put_full.Goals as goal

pub returns : goal.returns
unfolding full_lines
returns c = text_as (omega arith) (simp append_assoc) (then c.put_from.ensures (then c.put_from-2.ensures (then c.put_from-3.ensures c.put_from-4.ensures)))
