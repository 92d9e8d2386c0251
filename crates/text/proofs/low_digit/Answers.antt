use mathlib.Core.Path.{sym}
use Rattle.text.proofs.HexLaws.{small_digit, large_digit}
use borrow.Author.Rules.{rules}
use Rattle.text.proofs.low_digit.Goals as goal

pub returns-then-d-lt10 : goal.returns-then-d-lt10
returns-then-d-lt10 c = sym (small_digit _ (search rules))

pub returns-else-d-lt10 : goal.returns-else-d-lt10
returns-else-d-lt10 c = sym (large_digit _ (search rules))
