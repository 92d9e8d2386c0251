use mathlib.Core.Path.{refl}
use Rattle.sha256.specs.Compression.{Ch}
use Rattle.sha256.proofs.ch.Goals as goal

pub returns : goal.returns
unfolding Ch
returns c = refl
