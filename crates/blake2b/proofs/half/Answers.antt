use Rattle.blake2b.specs.Compression.{half}
use Rattle.blake2b.proofs.half.Goals as goal

pub returns : goal.returns
unfolding half
returns c = rw (c.turn-2.ensures, c.plus-2.ensures, c.turn.ensures, c.plus.ensures)
