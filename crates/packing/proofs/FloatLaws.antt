-- The binary64 number that a word says: the nearest to what is written, finite, and read back from its bits.
-- Assumes nothing.
use Rattle.std.proofs.Common.{◌≡◌, ℕ, ◌*◌, ◌^◌, ◌<◌, ◌≤◌, Bool, true, false, cond, not, T, ltb, ◌⊎◌, List, ℤ, pos, Some, None, sym, refl, ap, ◌∙◌, subst, inl, inr, ⊎_elim, lt_irrefl, mul_assoc, mul_comm, pos_of_ne-zero, mul-pos, zero-mul, mul-one, mul_left_comm, arith, ltb-true, ne_eqb}
use mathlib.Core.Bool.{false≢true}
use Rattle.std.specs.Option.{is_some, unwrap_or}
use lib.Ieee
use lib.Ieee.{Float, nan, inf, fin, Format, binary64, prec, low, up, down, units, round, div, neg, of_int, le, lt, eq, is_nan, fits, to_bits}
use lib.Ieee.Fits.{round_is, up_pos, down_pos, div-fits, neg-fits, of_int-fits, cond-fits}
use lib.Ieee.Exact.{HasValue, units_val}
use lib.Ieee.Back.{round_whole}
use lib.Ieee.Scale.{finite, overflow, round_same}
use lib.Ieee.Order.{round_mono}
use Rattle.refusals.proofs.RuleLaws.{by_test}
use Rattle.packing.specs.Decimals.{is_negative, unsigned, is_unsigned, is_number, digits_of, scale_of, quotient_of, number_of, float}
use Rattle.packing.proofs.DecimalLaws.{well_formed, digits_below, scale_below, scale_some}

-- THE NEAREST: two whole numbers that the format holds, one divided by the other, is their fraction rounded once
module _ (f : Format) (a b : ℕ) (hb : 0 < b) where
  cross : (x y u v : ℕ) → x * 1 ≡ a * u → y * 1 ≡ b * v → x * v * b ≡ a * (y * u)
  cross x y u v p q =
      let p' : x ≡ a * u = sym (mul-one x) ∙ p in
      let q' : y ≡ b * v = sym (mul-one y) ∙ q in
      rw (p', q') (simp (mul_assoc, mul_comm, mul_left_comm))

  some : (n : ℕ) (d : ℤ) → n * up d * 1 ≡ b * down d → n ≡ 0 → ⊥
  some n d q e =
      let z : 0 ≡ b * down d = rw (mul-one, e, zero-mul (up d)) at q in
      lt_irrefl 0 (subst (λ (k : ℕ). 0 < k) (sym z) (mul-pos hb (down_pos d)))

  quotient : (x y : Float) → HasValue x false a 1 → HasValue y false b 1 → div f x y ≡ round f false a b
  unfolding div
  quotient nan y p q = absurd p
  quotient (inf s) y p q = absurd p
  quotient (fin s m e) nan p q = absurd q
  quotient (fin s m e) (inf t) p q = absurd q
  quotient (fin s m e) (fin t n d) p q =
      let n-some : 0 < n = pos_of_ne-zero (some n d q.1) in
      rw (p.0, q.0, ne_eqb n 0 (some n d q.1))
      (round_same f false (m * up e * down d) (n * up d * down e) a b (mul-pos (mul-pos n-some (up_pos d)) (down_pos e)) hb (cross (m * up e) (n * up d) (down e) (down d) p.1 q.1))

  pub whole_quotient : a ≤ 2 ^ prec f → b ≤ 2 ^ prec f → div f (of_int f (pos a)) (of_int f (pos b)) ≡ round f false a b
  unfolding of_int
  whole_quotient p q = quotient (round f false a 1) (round f false b 1) (round_whole f false a p) (round_whole f false b q)

pub nearest : (u : List ℕ) → is_unsigned u ≡ true → quotient_of u ≡ round binary64 false (digits_of u) (scale_of u)
unfolding quotient_of
nearest u h =
    let s = well_formed u h in
    whole_quotient binary64 (digits_of u) (scale_of u) (scale_some u) (omega (arith, digits_below u s)) (omega (arith, scale_below u s))

-- WHAT ROUNDING GIVES is finite, or an infinity
value_finite : (x : Float) (s : Bool) (a c : ℕ) → HasValue x s a c → finite x ≡ true
value_finite nan s a c h = absurd h
value_finite (inf t) s a c h = absurd h
value_finite (fin t m e) s a c h = refl

units_kind : (f : Format) (s : Bool) (q k : ℕ) → (finite (units f s q k) ≡ true) ⊎ (units f s q k ≡ inf s)
unfolding units
units_kind f s q k =
    by_test (ltb (q * 2 ^ k) (overflow f))
    (λ h. inl (value_finite (units f s q k) s (q * 2 ^ k) (2 ^ low f) (units_val f s q k (ltb-true (q * 2 ^ k) (overflow f) h))))
    (λ h. inr (rw h))

round_kind : (f : Format) (s : Bool) (a b : ℕ) → (finite (round f s a b) ≡ true) ⊎ (round f s a b ≡ inf s)
round_kind f s a b = rw (round_is f s a b) (units_kind f s _ _)

-- an infinity is not below a number
inf_above : (y : Float) (a : ℕ) → HasValue y false a 1 → T (le (inf false) y) → ⊥
unfolding le lt eq
inf_above nan a h t = absurd h
inf_above (inf s) a h t = absurd h
inf_above (fin s m e) a h t = t

-- so a fraction of at most 15 digits is finite
pub round_finite : (a b : ℕ) → a ≤ 10 ^ 15 → 0 < b → finite (round binary64 false a b) ≡ true
round_finite a b h k =
    let top : HasValue (round binary64 false (10 ^ 15) 1) false (10 ^ 15) 1 = round_whole binary64 false (10 ^ 15) (omega arith) in
    let below : a * 1 ≤ 10 ^ 15 * b = omega arith in
    ⊎_elim (λ e. e) (λ e. absurd (inf_above (round binary64 false (10 ^ 15) 1) (10 ^ 15) top (subst (λ (x : Float). T (le x (round binary64 false (10 ^ 15) 1))) e (round_mono binary64 a b (10 ^ 15) 1 k (omega arith) below))))
    (round_kind binary64 false a b)

neg_finite : (x : Float) → finite x ≡ true → finite (neg x) ≡ true
unfolding neg
neg_finite nan h = h
neg_finite (inf s) h = h
neg_finite (fin s m e) h = refl

pub quotient_finite : (u : List ℕ) → is_unsigned u ≡ true → finite (quotient_of u) ≡ true
quotient_finite u h = rw (nearest u h) (round_finite (digits_of u) (scale_of u) (omega (arith, digits_below u (well_formed u h))) (scale_some u))

-- A WORD'S NUMBER, also that of a word that is none
zero_finite : finite (float 0) ≡ true
unfolding of_int
zero_finite = round_finite 0 1 (omega arith) (omega arith)

pub number_finite : (w : List ℕ) → finite (number_of w) ≡ true
unfolding number_of is_number
number_finite w =
    by_test (is_unsigned (unsigned w))
    (λ h. by_test (is_negative w)
    (λ n. rw (h, n) (neg_finite (quotient_of (unsigned w)) (quotient_finite (unsigned w) h)))
    (λ n. rw (h, n) (quotient_finite (unsigned w) h)))
    (λ h. rw h zero_finite)

pub number_fits : (w : List ℕ) → T (fits binary64 (number_of w))
unfolding number_of quotient_of
number_fits w =
    let u = unsigned w in
    let q = div binary64 (float (digits_of u)) (float (scale_of u)) in
    let h : T (fits binary64 q) = div-fits binary64 (float (digits_of u)) (float (scale_of u)) in
    cond-fits binary64 (is_number w) (cond (is_negative w) (neg q) q) (float 0)
    (cond-fits binary64 (is_negative w) (neg q) q (neg-fits binary64 q h) h)
    (of_int-fits binary64 (pos 0))

-- a finite number is no NaN, whose bits cannot be read
pub no_nan : (x : Float) → finite x ≡ true → T (not (is_nan x))
unfolding is_nan
no_nan nan h = absurd (false≢true h)
no_nan (inf s) h = tt
no_nan (fin s m e) h = tt

-- asked for its number, a word says whether it is one, and which one; the bits of the other words' 0 are 0
pub number_asked : (w : List ℕ) → is_some (cond (is_number w) (Some (to_bits binary64 (number_of w))) None) ≡ is_number w
number_asked w = by_test (is_number w) (λ h. rw h refl) (λ h. rw h refl)

number_none : (w : List ℕ) → is_number w ≡ false → 0 ≡ to_bits binary64 (number_of w)
unfolding number_of Ieee.of_int Ieee.to_bits
number_none w h = rw h

pub number_or_0 : (w : List ℕ) → unwrap_or (cond (is_number w) (Some (to_bits binary64 (number_of w))) None) 0 ≡ to_bits binary64 (number_of w)
number_or_0 w = by_test (is_number w) (λ h. rw h refl) (λ h. rw h (number_none w h))

-- from the pieces that the code has: u is the word without its sign, and q the quotient of u
pub number_test : (w u : List ℕ) → u ≡ unsigned w → is_number w ≡ is_unsigned u
unfolding is_number
number_test w u e = sym (ap is_unsigned e)

module _ (w u : List ℕ) (q : Float) (e : u ≡ unsigned w) (h : is_unsigned u ≡ true) (f : q ≡ quotient_of u) where
  pub number_negative : is_negative w ≡ true → neg q ≡ number_of w
  unfolding number_of is_number
  number_negative n = rw (sym e, h, n, f)

  pub number_other : is_negative w ≡ false → q ≡ number_of w
  unfolding number_of is_number
  number_other n = rw (sym e, h, n, f)
