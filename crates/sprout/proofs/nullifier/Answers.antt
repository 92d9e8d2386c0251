use Rattle.sprout.specs.Hashes.{nullifier_from}
use Rattle.sprout.proofs.nullifier.Goals as goal

pub returns : goal.returns
unfolding nullifier_from
returns c = c.prefixed.ensures
