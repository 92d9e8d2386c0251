use Rattle.sha256.specs.Compression.{rounds}
use Rattle.sha256.proofs.eight.Goals as goal

pub returns : goal.returns
unfolding rounds
returns c = cc
