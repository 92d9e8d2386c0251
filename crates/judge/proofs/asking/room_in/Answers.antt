use Rattle.std.proofs.Common.{arith}
use Rattle.ledger.specs.Ledgers.{room_in}
use Rattle.judge.proofs.asking.room_in.Goals as goal

pub returns : goal.returns
unfolding room_in
returns c = omega (arith, c.min.ensures)
