use Rattle.sprout.specs.Hashes.{rho_from}
use Rattle.sprout.proofs.rho.Goals as goal

pub returns : goal.returns
unfolding rho_from
returns c = cc
