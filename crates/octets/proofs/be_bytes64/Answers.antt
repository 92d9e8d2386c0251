use mathlib.Core.Path.{◌∙◌}
use Rattle.std.specs.Int.{w64}
use Rattle.octets.proofs.WordLaws.{big_to}
use Rattle.octets.proofs.be_bytes64.Goals as goal

pub returns : goal.returns
returns c = c.to_be_bytes.ensures ∙ big_to w64 c.args.x
