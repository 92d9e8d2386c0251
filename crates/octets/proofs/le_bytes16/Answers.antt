use mathlib.Core.Path.{◌∙◌}
use Rattle.std.specs.Int.{w16}
use Rattle.octets.proofs.WordLaws.{little_to}
use Rattle.octets.proofs.le_bytes16.Goals as goal

pub returns : goal.returns
returns c = c.to_le_bytes.ensures ∙ little_to w16 c.args.x
