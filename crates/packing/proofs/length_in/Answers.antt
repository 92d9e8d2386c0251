-- The two questions are those of `is_length`.
use mathlib.Core.Bool.{not}
use Rattle.std.proofs.Common.{◌≡◌, ℕ, ◌≤◌, List, true, Some, sym, ap, ◌∙◌, arith, length, le-leb}
use borrow.Author.Tests.{not-true, not-false, lt-leb}
use Rattle.packing.specs.Decimals.{is_digits, is_length, length_of}
use Rattle.packing.proofs.DecimalLaws.{length_digits, few_digits}
use Rattle.packing.proofs.length_in.Goals as goal
use Rattle.packing.proofs.length_in.Goals.{then-not-is_digits-via-then-not-is_digits, then-not-is_digits-via-else-not-is_digits+then-w-gt15}

one : (w : List ℕ) → is_digits w ≡ true → length w ≤ 15 → is_length w ≡ true
unfolding is_length
one w d l = rw d (le-leb (length w) 15 l)

pub returns-then-not-is_digits : goal.returns-then-not-is_digits
unfolding is_length
returns-then-not-is_digits c =
    elim c.then-not-is_digits.branch [
      | then-not-is_digits-via-then-not-is_digits w ↦ sym (rw (sym c.is_digits.ensures ∙ not-true c.is_digits.result (ap not w.if-not-is_digits.true)))
      | then-not-is_digits-via-else-not-is_digits+then-w-gt15 w ↦ sym (rw (sym c.is_digits.ensures ∙ not-false c.is_digits.result (ap not w.if-not-is_digits.false), lt-leb (length c.args.w.now) 15 w.if-w-gt15.true))
    ]

pub value_from-requires-clause-s_value : goal.value_from-requires-clause-s_value
value_from-requires-clause-s_value c = (length_digits _ (one _ (sym c.is_digits.ensures ∙ not-false c.is_digits.result (ap not c.if-not-is_digits.false)) (omega arith))).0

pub value_from-requires-clause-s_bound : goal.value_from-requires-clause-s_bound
value_from-requires-clause-s_bound c = omega (arith, few_digits _ (length_digits _ (one _ (sym c.is_digits.ensures ∙ not-false c.is_digits.result (ap not c.if-not-is_digits.false)) (omega arith))).1)

pub returns : goal.returns
unfolding length_of
returns c = sym (rw (one _ (sym c.is_digits.ensures ∙ not-false c.is_digits.result (ap not c.if-not-is_digits.false)) (omega arith)) (sym (ap Some c.value_from.ensures)))
