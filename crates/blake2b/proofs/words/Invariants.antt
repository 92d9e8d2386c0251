-- After i turns the array has the first i words of the block and zeros behind them; after 16 turns it is full.
use Rattle.octets.proofs.Filling.{Filled}
use Rattle.blake2b.specs.Compression.{word_at}
use Rattle.blake2b.proofs.words.Given as goal

abbrev pub invariant-loop-i : goal.invariant-loop-i
invariant-loop-i l = Filled (word_at l.b) 16 l.i l.w
