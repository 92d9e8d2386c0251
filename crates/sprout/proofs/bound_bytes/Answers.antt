use mathlib.Core.Path.{◌∙◌}
use mathlib.Core.List.{append_assoc, append-nil}
use Rattle.octets.proofs.PartLaws.{field_whole}
use Rattle.sprout.specs.Hashes.{bound_bytes}
use Rattle.sprout.proofs.bound_bytes.Goals as goal

pub returns : goal.returns
unfolding bound_bytes
returns c = c.part.ensures ∙ field_whole 128 _ c.as_flattened.ensures.len ∙ c.as_flattened.ensures.value ∙ simp (append_assoc, append-nil)
