use mathlib.Core.Path.{◌∙◌, ap}
use Rattle.std.specs.Int.{w64, from_le_bytes}
use Rattle.octets.proofs.PartLaws.{field_length}
use Rattle.octets.proofs.WordLaws.{little_from}
use Rattle.octets.proofs.le64.Goals as goal

pub returns : goal.returns
returns c =
    let a = c.args in
    c.from_le_bytes.ensures ∙ ap (from_le_bytes w64) c.part.ensures ∙ little_from w64 _ (field_length a.at 8 a.s.now)
