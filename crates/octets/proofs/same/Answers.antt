use mathlib.Core.Path.{◌∙◌}
use Rattle.octets.proofs.PartLaws.{same_is}
use Rattle.octets.proofs.same.Goals as goal

pub returns : goal.returns
returns c = c.eq.ensures ∙ same_is c.args.a.now c.args.b.now
