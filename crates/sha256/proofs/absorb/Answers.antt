use Rattle.sha256.specs.Compression.{compress_from}
use Rattle.sha256.proofs.absorb.Goals as goal

pub returns : goal.returns
unfolding compress_from
returns c = cc
