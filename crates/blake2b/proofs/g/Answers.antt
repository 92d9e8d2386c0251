use Rattle.blake2b.specs.Compression.{G}
use Rattle.blake2b.proofs.g.Goals as goal

pub returns : goal.returns
unfolding G
returns c = rw (c.half-2.ensures, c.half.ensures)
