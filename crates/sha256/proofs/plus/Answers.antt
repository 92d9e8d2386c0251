use Rattle.sha256.specs.Compression.{plus_of}
use Rattle.sha256.proofs.plus.Goals as goal

pub returns : goal.returns
unfolding plus_of
returns c = cc
