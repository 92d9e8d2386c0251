use Rattle.sha256.specs.Compression.{rotr, σ0, shr}
use Rattle.sha256.proofs.small0.Goals as goal

pub returns : goal.returns
unfolding σ0 rotr shr
returns c = cc
