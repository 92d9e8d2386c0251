use Rattle.sha256.specs.Compression.{rotr, σ1, shr}
use Rattle.sha256.proofs.small1.Goals as goal

pub returns : goal.returns
unfolding σ1 rotr shr
returns c = cc
