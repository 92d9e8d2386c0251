use Rattle.sprout.specs.Hashes.{has_top_bits}
use borrow.Author.Rules.{rules}
use Rattle.sprout.proofs.has_top_bits.Goals as goal

pub returns : goal.returns
unfolding has_top_bits
returns c = search rules
