use Rattle.blake2b.specs.Compression.{diagonals}
use Rattle.blake2b.proofs.diagonals.Goals as goal

pub returns : goal.returns
unfolding diagonals
returns c = rw (c.step-4.ensures, c.step-3.ensures, c.step-2.ensures, c.step.ensures)
