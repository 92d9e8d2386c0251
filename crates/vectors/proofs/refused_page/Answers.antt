use mathlib.Core.Path.{refl}
use native.Mathlib.Omega.{arith}
use Rattle.text.proofs.PenLaws.{then, text_as, holds}
use Rattle.vectors.specs.Lines.{refused_line}
use Rattle.vectors.proofs.refused_page.Goals as goal

pub returns : goal.returns
unfolding refused_line
returns c = holds {a = 256} {n = 256} (omega arith) c.new-page.ensures (text_as (omega (arith, c.requires)) refl (then c.put.ensures c.put-2.ensures))
