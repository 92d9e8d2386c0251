use native.Mathlib.Omega.{arith}
use Rattle.text.proofs.PenLaws.{then, holds}
use Rattle.day.specs.Lines.{all_lines}
use Rattle.day.proofs.render.Goals as goal

pub returns : goal.returns
unfolding all_lines
returns c = holds {n = 4096} (omega arith) c.new-page.ensures (then c.put_day.ensures c.put_full.ensures)
