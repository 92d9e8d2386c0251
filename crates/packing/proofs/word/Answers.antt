-- The library's parts are the words.
use Rattle.std.proofs.Common.{[], refl, ◌∙◌}
use Rattle.packing.proofs.SplitLaws.{or_none, split_word}
use Rattle.packing.proofs.word.Goals as goal

pub returns : goal.returns
returns c = rw c.unwrap_or.ensures (or_none (λ x. x.now) c.nth_word.result [] _ refl c.nth_word.ensures) ∙ split_word c.args.k c.args.line.now
