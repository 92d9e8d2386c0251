use Rattle.sha256.specs.Compression.{compress_of}
use Rattle.sha256.proofs.compress.Goals as goal

pub returns : goal.returns
unfolding compress_of
returns c = cc
