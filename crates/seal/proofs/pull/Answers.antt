use mathlib.Core.Path.{refl}
use Rattle.seal.specs.Pull.{pull_of}
use Rattle.seal.proofs.pull.Goals as goal

pub returns : goal.returns
unfolding pull_of
returns c = refl
