-- Digits and the numbers that they write.
-- Assumes nothing.
use Rattle.std.proofs.Common.{◌≡◌, ℕ, suc, ◌+◌, ◌-◌, ◌*◌, ◌^◌, ◌<◌, ◌≤◌, true, false, cond, ◌&&◌, eqb, leb, List, [], ◌∷◌, length, get_or, drop, Some, None, sym, refl, ap, ◌∙◌, ⊎_elim, le_trans, mul-le-mul_right, mul_assoc, mul_comm, eq-or-lt_of_le, pow-suc, le-mul_of_pos_right, arith, pow-add, eq-eqb, ne_eqb, eqb-true, le-leb, leb-true}
use mathlib.Core.Bool.{Bool, false≢true}
use Rattle.std.specs.List.{list_all}
use Rattle.std.specs.Char.{is_ascii_digit}
use Rattle.std.specs.Option.{is_some, unwrap_or}
use native.Mathlib.Nat.{one-le-pow, pow-le-pow_right}
use borrow.Author.Tests.{eqb-false, lt-leb}
use Rattle.refusals.proofs.RuleLaws.{by_test}
use Rattle.octets.proofs.BoolLaws.{and_both}
use Rattle.packing.specs.Decimals.{is_digit, all_digits, is_digits, number_from, is_length, length_of, is_negative, unsigned, whole, fraction, point, is_unsigned, digits_of, scale_of}
use Rattle.packing.specs.Words.{place_of}
use Rattle.packing.proofs.WordLaws.{empty, next_byte, none_left, place_within, up_to_length, behind_length}

-- THE LOOPS, at what is left from i on
module _ (s : List ℕ) (i : ℕ) (h : i < length s) where
  pub digits_next : all_digits (drop i s) ≡ (is_digit (get_or s i 0) && all_digits (drop (i + 1) s))
  unfolding all_digits
  digits_next = rw (next_byte s i h)

  pub value_next : (v : ℕ) → number_from v (drop i s) ≡ number_from (v * 10 + (get_or s i 0 - 48)) (drop (i + 1) s)
  unfolding number_from
  value_next v = rw (next_byte s i h)

-- the library's test of each byte, as the code makes it
pub all_as : (s : List ℕ) → list_all is_ascii_digit s ≡ all_digits s
unfolding all_digits is_digit
all_as [] = refl
all_as (x ∷ s) = ap (λ (b : Bool). (leb 48 x && leb x 57) && b) (all_as s)

pub value_end : (s : List ℕ) (i v : ℕ) → length s ≤ i → number_from v (drop i s) ≡ v
unfolding number_from
value_end s i v h = rw (none_left s i h)

-- a digit's code
pub digit_low : (x : ℕ) → is_digit x ≡ true → 48 ≤ x
unfolding is_digit
digit_low x h = leb-true 48 x (and_both (leb 48 x) (leb x 57) h).0

pub digit_high : (x : ℕ) → is_digit x ≡ true → x ≤ 57
unfolding is_digit
digit_high x h = leb-true x 57 (and_both (leb 48 x) (leb x 57) h).1

-- one digit more
more_digits : (v d k : ℕ) → d ≤ 9 → (v * 10 + d + 1) * 10 ^ k ≤ (v + 1) * 10 ^ suc k
more_digits v d k h =
    let l : (v * 10 + d + 1) * 10 ^ k ≤ (v + 1) * 10 * 10 ^ k = mul-le-mul_right (10 ^ k) (omega arith) in
    rw (pow-suc 10 k, mul_comm (10 ^ k) 10, ← mul_assoc (v + 1) 10 (10 ^ k)) l

pub room_next : (v d k most : ℕ) → d ≤ 9 → (v + 1) * 10 ^ suc k ≤ most → (v * 10 + d + 1) * 10 ^ k ≤ most
room_next v d k most h l = le_trans (more_digits v d k h) l

-- so the number is below the room that it was given
pub room_below : (v k most : ℕ) → (v + 1) * 10 ^ k ≤ most → v < most
room_below v k most h =
    let l : v + 1 ≤ (v + 1) * 10 ^ k = le-mul_of_pos_right (v + 1) (one-le-pow k 10 (omega arith)) in
    omega arith

-- THE SIGN
pub negative_some : (w : List ℕ) → is_negative w ≡ true → 1 ≤ length w
unfolding is_negative
negative_some [] h = absurd (false≢true h)
negative_some (x ∷ w) h = omega arith

pub unsigned_negative : (w : List ℕ) → is_negative w ≡ true → drop 1 w ≡ unsigned w
unfolding unsigned
unsigned_negative w h = rw h

pub unsigned_other : (w : List ℕ) → is_negative w ≡ false → unsigned w ≡ w
unfolding unsigned
unsigned_other w h = rw h

-- HOW LARGE a number is that digits write
pub value_below : (s : List ℕ) (v : ℕ) → all_digits s ≡ true → number_from v s + 1 ≤ (v + 1) * 10 ^ length s
unfolding all_digits number_from
value_below [] v h = omega arith
value_below (x ∷ s) v h =
    let d = and_both (is_digit x) (all_digits s) h in
    le_trans (value_below s (v * 10 + (x - 48)) d.1) (more_digits v (x - 48) (length s) (omega (arith, digit_high x d.0)))

pub few_digits : (k : ℕ) → k ≤ 15 → 10 ^ k ≤ 10 ^ 15
few_digits k h = pow-le-pow_right {n = 10} (omega arith) {i = k} {j = 15} h

all_of : (s : List ℕ) → is_digits s ≡ true → all_digits s ≡ true
unfolding is_digits
all_of s h = (and_both (leb 1 (length s)) (all_digits s) h).1

-- A LENGTH: what its digits need
pub length_digits : (w : List ℕ) → is_length w ≡ true → (all_digits w ≡ true) × (length w ≤ 15)
unfolding is_length
length_digits w h = let p = and_both (is_digits w) (leb (length w) 15) h in (all_of w p.0, leb-true (length w) 15 p.1)

pub length_below : (w : List ℕ) → length_of w < 10 ^ 15
unfolding length_of
length_below w = by_test (is_length w) (λ h. rw h (said h)) (λ h. rw h (omega arith))
  where
    said : is_length w ≡ true → number_from 0 w < 10 ^ 15
    said h = let d = length_digits w h in omega (arith, value_below w 0 d.0, few_digits (length w) d.1)

-- asked for its length, a word says whether it is one, and which one
pub length_asked : (w : List ℕ) → is_some (cond (is_length w) (Some (length_of w)) None) ≡ is_length w
length_asked w = by_test (is_length w) (λ h. rw h refl) (λ h. rw h refl)

pub length_or_0 : (w : List ℕ) → unwrap_or (cond (is_length w) (Some (length_of w)) None) 0 ≡ length_of w
unfolding length_of
length_or_0 w = by_test (is_length w) (λ h. rw h refl) (λ h. rw h refl)

no_digits : all_digits [] ≡ true
unfolding all_digits
no_digits = refl

-- A NUMBER without its sign: digits on both sides of the point, or nothing behind it, and 15 in all
pub record WellFormed (u : List ℕ) : Type 0 where
  pub before : all_digits (whole u) ≡ true
  pub after : all_digits (fraction u) ≡ true
  pub few : length (whole u) + length (fraction u) ≤ 15

pub well_formed : (u : List ℕ) → is_unsigned u ≡ true → WellFormed u
unfolding is_unsigned
well_formed u h =
    let n = length u in
    let m = length (whole u) in
    let p = and_both (is_digits (whole u)) (cond (eqb m n) (leb n 15) (leb n 16 && is_digits (fraction u))) h in
    let e : m ≡ place_of point u = up_to_length point u in
    let f : length (fraction u) ≡ n - (place_of point u + 1) = behind_length point u in
    by_test (eqb m n)
    (λ t.
    let q : leb n 15 ≡ true = rw t at p.1 in
    let r : m ≡ n = eqb-true m n t in
    record {
      before = all_of (whole u) p.0;
      after = rw (empty (fraction u) (omega arith)) no_digits;
      few = omega (arith, leb-true n 15 q);
    })
    (λ t.
    let q = and_both (leb n 16) (is_digits (fraction u)) (rw t at p.1) in
    let r : m ≡ n → ⊥ = eqb-false m n t in
    let w : m ≤ n = omega (arith, place_within point u) in
    let l : m < n = ⊎_elim (λ q. absurd (r q)) (λ q. q) (eq-or-lt_of_le w) in
    record {
      before = all_of (whole u) p.0;
      after = all_of (fraction u) q.1;
      few = omega (arith, leb-true n 16 q.0);
    })

-- what the loops over them ask
module _ (u : List ℕ) (h : WellFormed u) where
  pub first_room : 1 * 10 ^ length (whole u) ≤ 10 ^ 15
  first_room = omega (arith, few_digits (length (whole u)) (omega (arith, h.few)))

  pub second_room : (number_from 0 (whole u) + 1) * 10 ^ length (fraction u) ≤ 10 ^ 15
  second_room =
      let k = length (fraction u) in
      let p : 10 ^ length (whole u) * 10 ^ k ≤ 10 ^ 15 = rw (← pow-add 10 (length (whole u)) k) (few_digits (length (whole u) + k) h.few) in
      let q : number_from 0 (whole u) + 1 ≤ 10 ^ length (whole u) = omega (arith, value_below (whole u) 0 h.before) in
      le_trans (mul-le-mul_right (10 ^ k) q) p

  pub digits_below : digits_of u < 10 ^ 15
  unfolding digits_of
  digits_below = omega (arith, le_trans (value_below (fraction u) (number_from 0 (whole u)) h.after) second_room)

  pub scale_below : scale_of u ≤ 10 ^ 15
  unfolding scale_of
  scale_below = few_digits (length (fraction u)) (omega (arith, h.few))

pub scale_some : (u : List ℕ) → 0 < scale_of u
unfolding scale_of
scale_some u = one-le-pow (length (fraction u)) 10 (omega arith)

-- the tests in the code's order, on the text w before the point
module _ (u w : List ℕ) (e : w ≡ whole u) where
  pub not_digits : is_digits w ≡ false → is_unsigned u ≡ false
  unfolding is_unsigned
  not_digits h = rw (sym e, h)

  module _ (h : is_digits w ≡ true) where
    pub without_point : length w ≡ length u → is_unsigned u ≡ leb (length u) 15
    unfolding is_unsigned
    without_point k = rw (sym e, h, eq-eqb (length w) (length u) k)

    pub too_long : (length w ≡ length u → ⊥) → 16 < length u → is_unsigned u ≡ false
    unfolding is_unsigned
    too_long k l = rw (sym e, h, ne_eqb (length w) (length u) k, lt-leb (length u) 16 l)

    pub with_point : (length w ≡ length u → ⊥) → length u ≤ 16 → is_unsigned u ≡ is_digits (fraction u)
    unfolding is_unsigned
    with_point k l = rw (sym e, h, ne_eqb (length w) (length u) k, le-leb (length u) 16 l)

-- VALUE_FROM, which takes one digit each turn: what holds before a turn, and after it. n is the number so far, i the index of the next digit
pub record Left (v : ℕ) (s : List ℕ) (n i : ℕ) : Type 0 where
  pub digits : all_digits (drop i s) ≡ true
  pub room : (n + 1) * 10 ^ (length s - i) ≤ 10 ^ 15
  pub value : number_from v s ≡ number_from n (drop i s)

module _ (v : ℕ) (s : List ℕ) (n i : ℕ) (h : i < length s) (l : Left v s n i) where
  pub this_digit : is_digit (get_or s i 0) ≡ true
  this_digit = (and_both (is_digit (get_or s i 0)) (all_digits (drop (i + 1) s)) (sym (digits_next s i h) ∙ l.digits)).0

  pub below_most : n < 10 ^ 15
  below_most = room_below n (length s - i) (10 ^ 15) l.room

  pub turn : Left v s (n * 10 + (get_or s i 0 - 48)) (i + 1)
  turn =
      let e : length s - i ≡ suc (length s - (i + 1)) = omega arith in
      record {
        digits = (and_both (is_digit (get_or s i 0)) (all_digits (drop (i + 1) s)) (sym (digits_next s i h) ∙ l.digits)).1;
        room = room_next n (get_or s i 0 - 48) (length s - (i + 1)) (10 ^ 15) (omega (arith, digit_high _ this_digit)) (rw e at l.room);
        value = l.value ∙ value_next s i h n;
      }
