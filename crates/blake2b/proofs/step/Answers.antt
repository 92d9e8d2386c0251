use Rattle.blake2b.specs.Compression.{step}
use Rattle.blake2b.proofs.step.Goals as goal

pub returns : goal.returns
unfolding step
returns c = rw (c.g.ensures, c.pick-y.ensures, c.pick-x.ensures)
