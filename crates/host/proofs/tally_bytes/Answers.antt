use mathlib.Core.Path.{◌∙◌}
use mathlib.Core.List.{append_assoc, append-nil}
use Rattle.octets.proofs.PartLaws.{field_whole}
use Rattle.host.specs.Books.{tally_bytes}
use Rattle.host.proofs.tally_bytes.Goals as goal

pub returns : goal.returns
unfolding tally_bytes
returns c =
    c.part.ensures ∙ field_whole 12 _ c.as_flattened.ensures.len ∙ c.as_flattened.ensures.value
    ∙ rw (c.le_bytes32.ensures, c.le_bytes32-2.ensures, c.le_bytes32-3.ensures) (simp (append_assoc, append-nil))
