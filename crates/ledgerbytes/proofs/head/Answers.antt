use mathlib.Core.Path.{◌∙◌}
use mathlib.Core.List.{append_assoc, append-nil}
use Rattle.octets.proofs.PartLaws.{field_whole}
use Rattle.ledgerbytes.specs.LedgerBytes.{head_of}
use Rattle.ledgerbytes.proofs.head.Goals as goal

pub returns : goal.returns
unfolding head_of
returns c =
    c.part.ensures ∙ field_whole 24 _ c.as_flattened.ensures.len ∙ c.as_flattened.ensures.value
    ∙ rw (c.le_bytes64.ensures, c.le_bytes64-2.ensures, c.le_bytes64-3.ensures, c.zatoshi.ensures) (simp (append_assoc, append-nil))
