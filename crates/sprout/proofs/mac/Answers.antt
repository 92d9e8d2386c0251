use Rattle.sprout.specs.Hashes.{mac_from}
use Rattle.sprout.proofs.mac.Goals as goal

pub returns : goal.returns
unfolding mac_from
returns c = cc
