use Rattle.std.proofs.Common.{arith}
use Rattle.ledger.specs.Ledgers.{room_in}
use Rattle.replay.proofs.rows_shown.Goals as goal

pub returns : goal.returns
unfolding room_in
returns c = omega (arith, c.min.ensures, c.min-2.ensures)
