-- The whole is a number exactly if what is left from i on are digits that say one behind v, which is what the first i digits say; a byte that is no
-- digit says no, and so does a digit that makes it too large, since those behind it do not make it smaller.
use mathlib.Core.Bool.{not}
use Prim.Native.Nat.{ℕ, ◌+◌, ◌-◌, ◌*◌, ◌<◌}
use mathlib.Core.Path.{◌≡◌, refl, sym, ◌∙◌, ap}
use native.Mathlib.Omega.{arith}
use lib.ListN.{get_or, drop}
use borrow.Author.Tests.{not-true, not-false, eqb-true, eqb-false}
use Rattle.form.specs.Digits.{is_digit, number_from}
use Rattle.form.proofs.DigitLaws.{digit_as, every_turn, every_not, every_end, number_turn, number_end, number_grows, is_number_lem, no_digits, no_digit, too_large}
use Rattle.form.proofs.digits.number_of.Goals as goal

ne0 : {n : ℕ} → (n ≡ 0 → ⊥) → 0 < n
ne0 {n} h = omega (arith, h)

pub returns-then-is_empty : goal.returns-then-is_empty
returns-then-is_empty c =
    let a = c.args in
    rw (no_digits a.most a.digits.now (eqb-true _ 0 (sym c.is_empty.ensures ∙ c.if-is_empty.true)))

pub loop-x-init : goal.loop-x-init
loop-x-init c = record {
  some = ne0 (eqb-false _ 0 (sym c.is_empty.ensures ∙ c.if-is_empty.false));
  most = omega arith;
  digits = refl;
  value = refl;
}

pub returns-then-not-is_ascii_digit : goal.returns-then-not-is_ascii_digit
returns-then-not-is_ascii_digit c =
    let a = c.args in
    let e = every_not is_digit a.digits.now c.loop-x.x-index (omega arith) (sym (c.is_ascii_digit.ensures.value ∙ digit_as _) ∙ not-true _ (ap not c.if-not-is_ascii_digit.true)) in
    rw (no_digit a.most a.digits.now (c.loop-x.invariant.digits ∙ e))

pub returns-then-most-d : goal.returns-then-most-d
returns-then-most-d c =
    let a = c.args in
    let i = c.loop-x.x-index in
    let e = number_turn c.loop-x.v a.digits.now i (omega arith) in
    let g = number_grows (c.loop-x.v * 10 + (get_or a.digits.now i 0 - 48)) (drop (i + 1) a.digits.now) in
    rw (too_large a.most a.digits.now (omega (arith, c.loop-x.invariant.value, c.if-most-d.true, c.from-d.ensures)))

pub returns-then-most-d-2 : goal.returns-then-most-d-2
returns-then-most-d-2 c =
    let a = c.args in
    let i = c.loop-x.x-index in
    let e = number_turn c.loop-x.v a.digits.now i (omega arith) in
    let g = number_grows (c.loop-x.v * 10 + (get_or a.digits.now i 0 - 48)) (drop (i + 1) a.digits.now) in
    rw (too_large a.most a.digits.now (omega (arith, c.loop-x.invariant.value, c.if-most-d-2.true, c.from-d.ensures)))

pub loop-x-preserved : goal.loop-x-preserved
loop-x-preserved c =
    let s = c.args.digits.now in
    let i = c.loop-x.x-index in
    let v = c.loop-x.invariant in
    let e = every_turn is_digit s i (omega arith) (sym (c.is_ascii_digit.ensures.value ∙ digit_as _) ∙ not-false _ (ap not c.if-not-is_ascii_digit.false)) in record {
      some = v.some;
      most = omega arith;
      digits = v.digits ∙ e;
      value = v.value ∙ number_turn c.loop-x.v s i (omega arith) ∙ rw c.from-d.ensures refl;
    }

pub returns : goal.returns
returns c =
    let a = c.args in
    let v = c.loop-x.invariant in
    let e : number_from 0 a.digits.now ≡ c.loop-x.v = v.value ∙ number_end c.loop-x.v a.digits.now c.loop-x.x-index (omega arith) in
    rw (is_number_lem a.most a.digits.now v.some (v.digits ∙ every_end is_digit a.digits.now c.loop-x.x-index (omega arith)) (omega arith), e)
