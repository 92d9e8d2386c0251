use mathlib.Core.Path.{refl}
use Rattle.sprout.specs.Hashes.{with_prefix}
use Rattle.sprout.proofs.with_prefix.Goals as goal

pub returns : goal.returns
unfolding with_prefix
returns c = refl
