use Rattle.blake2b.specs.Compression.{columns}
use Rattle.blake2b.proofs.columns.Goals as goal

pub returns : goal.returns
unfolding columns
returns c = rw (c.step-4.ensures, c.step-3.ensures, c.step-2.ensures, c.step.ensures)
