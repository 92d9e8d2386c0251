use Rattle.std.proofs.Common.{ap₂, arith}
use Rattle.text.proofs.PenLaws.{rendered, rendered_as}
use Rattle.packing.specs.Packing.{text_by, text_of}
use Rattle.packing.proofs.pack.Goals as goal

pub returns : goal.returns
unfolding text_of
returns c = rendered_as (ap₂ text_by c.up_to.ensures c.behind.ensures) (rendered (omega (arith, c.clear.ensures.room)) (rw c.clear.ensures.cleared at c.put_text.ensures))
