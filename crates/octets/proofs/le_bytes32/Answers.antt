use mathlib.Core.Path.{◌∙◌}
use Rattle.std.specs.Int.{w32}
use Rattle.octets.proofs.WordLaws.{little_to}
use Rattle.octets.proofs.le_bytes32.Goals as goal

pub returns : goal.returns
returns c = c.to_le_bytes.ensures ∙ little_to w32 c.args.x
