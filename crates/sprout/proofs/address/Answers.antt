use Rattle.sprout.specs.Hashes.{address_from}
use Rattle.sprout.proofs.address.Goals as goal

pub returns : goal.returns
unfolding address_from
returns c = c.prefixed.ensures
