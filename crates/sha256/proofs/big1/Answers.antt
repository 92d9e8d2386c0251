use Rattle.sha256.specs.Compression.{rotr, Σ1}
use Rattle.sha256.proofs.big1.Goals as goal

pub returns : goal.returns
unfolding Σ1 rotr
returns c = cc
