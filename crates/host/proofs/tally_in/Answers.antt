use Rattle.host.specs.Books.{tally_in}
use Rattle.host.proofs.tally_in.Goals as goal

pub returns : goal.returns
unfolding tally_in
returns c = rw (c.le32.ensures, c.le32-2.ensures, c.le32-3.ensures)
