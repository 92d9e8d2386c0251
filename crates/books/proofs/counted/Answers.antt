use native.Mathlib.Omega.{arith}
use mathlib.Core.Path.{sym, ap, ◌∙◌}
use Rattle.books.specs.Tally.{yes}
use Rattle.books.proofs.TallyLaws.{seen_full, count_full, has_room}
use Rattle.books.proofs.counted.Goals as goal

pub returns-then-t-ge-FULL : goal.returns-then-t-ge-FULL
returns-then-t-ge-FULL c = sym (seen_full _ _ c.if-t-ge-FULL.true)

pub returns-then-count_of-ge-FULL : goal.returns-then-count_of-ge-FULL
returns-then-count_of-ge-FULL c = sym (count_full _ _ c.if-t-ge-FULL.false (omega arith))

pub returns : goal.returns
returns c = ap yes c.raise.ensures ∙ sym (has_room _ _ c.if-t-ge-FULL.false (omega arith))
