use mathlib.Core.Bool.{not}
use Rattle.std.proofs.Common.{◌≡◌, true, false, sym, ap, ◌∙◌, arith, le-leb, length, eqb-true}
use borrow.Author.Tests.{lt-leb, eqb-false, not-true, not-false}
use Rattle.packing.specs.Decimals.{is_digits}
use Rattle.packing.proofs.DecimalLaws.{all_as}
use Rattle.packing.proofs.is_digits.Goals as goal

pub returns-then-not-is_empty : goal.returns-then-not-is_empty
unfolding is_digits
returns-then-not-is_empty c =
    let h : c.is_empty.result ≡ false = not-true c.is_empty.result (ap not c.if-not-is_empty.true) in
    let e = eqb-false (length c.args.s.now) 0 (sym c.is_empty.ensures ∙ h) in
    sym (rw (le-leb 1 (length c.args.s.now) (omega (arith, e))) (sym (c.all_digits.ensures ∙ all_as c.args.s.now)))

pub returns-else-not-is_empty : goal.returns-else-not-is_empty
unfolding is_digits
returns-else-not-is_empty c =
    let h : c.is_empty.result ≡ true = not-false c.is_empty.result (ap not c.if-not-is_empty.false) in
    let e = eqb-true (length c.args.s.now) 0 (sym c.is_empty.ensures ∙ h) in
    rw (h, lt-leb 1 (length c.args.s.now) (omega arith))
