use mathlib.Core.Path.{refl}
use Rattle.sha256.specs.Compression.{Maj}
use Rattle.sha256.proofs.maj.Goals as goal

pub returns : goal.returns
unfolding Maj
returns c = refl
