use mathlib.Core.List.{append_assoc}
use native.Mathlib.Omega.{arith}
use Rattle.text.proofs.PenLaws.{then, text_as, holds}
use Rattle.vectors.specs.Lines.{digest_line}
use Rattle.vectors.proofs.digest_page.Goals as goal

pub returns : goal.returns
unfolding digest_line
returns c =
    holds {a = 256} {n = 256} (omega arith) c.new-page.ensures
    (text_as (omega (arith, c.requires)) (simp append_assoc) (then c.put.ensures (then c.put-2.ensures (then c.put_hex.ensures c.put-3.ensures))))
