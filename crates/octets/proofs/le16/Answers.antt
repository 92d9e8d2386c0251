use mathlib.Core.Path.{◌∙◌, ap}
use Rattle.std.specs.Int.{w16, from_le_bytes}
use Rattle.octets.proofs.PartLaws.{field_length}
use Rattle.octets.proofs.WordLaws.{little_from}
use Rattle.octets.proofs.le16.Goals as goal

pub returns : goal.returns
returns c =
    let a = c.args in
    c.from_le_bytes.ensures ∙ ap (from_le_bytes w16) c.part.ensures ∙ little_from w16 _ (field_length a.at 2 a.s.now)
