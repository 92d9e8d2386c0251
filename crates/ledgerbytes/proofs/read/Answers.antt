use Rattle.ledgerbytes.specs.LedgerBytes.{ledger_of}
use Rattle.ledgerbytes.proofs.read.Goals as goal

pub returns : goal.returns
unfolding ledger_of
returns c = rw (c.read_counts-counts.ensures, c.read_record-tree.ensures)
