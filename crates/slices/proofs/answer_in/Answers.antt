use mathlib.Core.Path.{sym, ◌∙◌}
use borrow.Author.Tests.{le-leb, lt-leb}
use native.Mathlib.Omega.{arith}
use Rattle.slices.specs.Records.{answer_in}
use Rattle.slices.proofs.answer_in.Goals as goal

pub returns-then-number-gt17 : goal.returns-then-number-gt17
unfolding answer_in
returns-then-number-gt17 c = rw (sym c.byte_from-number.ensures, lt-leb c.byte_from-number.result 17 c.if-number-gt17.true) c.from.ensures

pub returns : goal.returns
unfolding answer_in
returns c = rw (sym c.byte_from-number.ensures, le-leb c.byte_from-number.result 17 (omega (arith, c.if-number-gt17.false))) (c.refused_in_row.ensures ∙ rw (c.byte_from-place.ensures, c.of.ensures, c.le16-row.ensures))
