-- After i turns the array of 64 has the first i words of the block and zeros behind them; it stops at 16, where the schedule goes on.
use Rattle.octets.proofs.Filling.{Filled}
use Rattle.sha256.specs.Compression.{word_at}
use Rattle.sha256.proofs.words.Given as goal

abbrev pub invariant-loop-i : goal.invariant-loop-i
invariant-loop-i l = Filled (word_at l.b) 64 l.i l.w
