use mathlib.Core.Path.{◌∙◌}
use Rattle.std.specs.Int.{w64}
use Rattle.octets.proofs.WordLaws.{little_to}
use Rattle.octets.proofs.le_bytes64.Goals as goal

pub returns : goal.returns
returns c = c.to_le_bytes.ensures ∙ little_to w64 c.args.x
