use mathlib.Core.Path.{◌∙◌, ap}
use Rattle.std.specs.Int.{w32, from_le_bytes}
use Rattle.octets.proofs.PartLaws.{field_length}
use Rattle.octets.proofs.WordLaws.{little_from}
use Rattle.octets.proofs.le32.Goals as goal

pub returns : goal.returns
returns c =
    let a = c.args in
    c.from_le_bytes.ensures ∙ ap (from_le_bytes w32) c.part.ensures ∙ little_from w32 _ (field_length a.at 4 a.s.now)
