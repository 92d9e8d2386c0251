use Rattle.sha256.specs.Compression.{rotr, Σ0}
use Rattle.sha256.proofs.big0.Goals as goal

pub returns : goal.returns
unfolding Σ0 rotr
returns c = cc
