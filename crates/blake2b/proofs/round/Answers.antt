use Rattle.blake2b.specs.Compression.{round}
use Rattle.blake2b.proofs.round.Goals as goal

pub returns : goal.returns
unfolding round
returns c = rw (c.diagonals.ensures, c.columns.ensures)
