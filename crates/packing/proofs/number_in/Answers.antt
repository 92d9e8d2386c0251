-- Whether a word is a number is what its part behind the sign says; of one that is, what is taken the bits of is its
-- number, which is finite.
use mathlib.Core.Bool.{not}
use Rattle.std.proofs.Common.{◌≡◌, true, Some, sym, ap, ◌∙◌}
use borrow.Author.Tests.{not-true, not-false}
use lib.Ieee.{binary64, neg, to_bits}
use Rattle.packing.specs.Decimals.{is_unsigned, number_of}
use Rattle.packing.proofs.FloatLaws.{number_test, number_negative, number_other, number_finite, no_nan}
use Rattle.packing.proofs.number_in.Goals as goal
use Rattle.packing.proofs.number_in.Goals.{Else-is_negative, Else-not-is_unsigned, Then-is_negative}

is_one : (c : Else-not-is_unsigned) → is_unsigned c.unsigned-u.result.now ≡ true
is_one c = sym c.is_unsigned.ensures ∙ not-false c.is_unsigned.result (ap not c.if-not-is_unsigned.false)

negative : (c : Then-is_negative) → neg c.quotient_of-q.result ≡ number_of c.args.w.now
negative c =
    number_negative _ _ _ c.unsigned-u.ensures (sym c.is_unsigned.ensures ∙ not-false c.is_unsigned.result (ap not c.if-not-is_unsigned.false)) c.quotient_of-q.ensures
    (sym c.is_negative.ensures ∙ c.if-is_negative.true)

other : (c : Else-is_negative) → c.quotient_of-q.result ≡ number_of c.args.w.now
other c =
    number_other _ _ _ c.unsigned-u.ensures (sym c.is_unsigned.ensures ∙ not-false c.is_unsigned.result (ap not c.if-not-is_unsigned.false)) c.quotient_of-q.ensures
    (sym c.is_negative.ensures ∙ c.if-is_negative.false)

pub returns-then-not-is_unsigned : goal.returns-then-not-is_unsigned
returns-then-not-is_unsigned c = sym (rw (number_test _ _ c.unsigned-u.ensures ∙ sym c.is_unsigned.ensures ∙ not-true c.is_unsigned.result (ap not c.if-not-is_unsigned.true)))

pub quotient_of-q-requires : goal.quotient_of-q-requires
quotient_of-q-requires c = is_one c

pub float_to_bits-result : goal.float_to_bits-result
float_to_bits-result c = rw (negative c) (no_nan _ (number_finite _))

pub returns-then-is_negative : goal.returns-then-is_negative
returns-then-is_negative c = sym (rw (number_test _ _ c.unsigned-u.ensures ∙ sym c.is_unsigned.ensures ∙ not-false c.is_unsigned.result (ap not c.if-not-is_unsigned.false)) (sym (ap Some (ap (to_bits binary64) (negative c)))))

pub float_to_bits-result-2 : goal.float_to_bits-result-2
float_to_bits-result-2 c = rw (other c) (no_nan _ (number_finite _))

pub returns : goal.returns
returns c = sym (rw (number_test _ _ c.unsigned-u.ensures ∙ sym c.is_unsigned.ensures ∙ not-false c.is_unsigned.result (ap not c.if-not-is_unsigned.false)) (sym (ap Some (ap (to_bits binary64) (other c)))))
