use Rattle.sprout.specs.Hashes.{commitment_from}
use Rattle.sprout.proofs.commitment.Goals as goal

pub returns : goal.returns
unfolding commitment_from
returns c = cc
