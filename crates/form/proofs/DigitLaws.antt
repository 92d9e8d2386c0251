-- Digits, by the turns of the loops that read them.
-- Assumes nothing.
use Prim.Native.Nat.{ℕ, zero, suc, ◌+◌, ◌-◌, ◌*◌, ◌/◌, ◌≤◌, ◌<◌}
use mathlib.Core.Path.{◌≡◌, refl, ap}
use mathlib.Core.Bool.{Bool, true, false, cond, not, ◌&&◌}
use mathlib.Core.List.{List, [], ◌∷◌}
use native.Mathlib.Numerals.{add-one}
use native.Mathlib.Omega.{arith}
use Rattle.std.specs.Prelude.{Some, None}
use Rattle.std.specs.List.{list_all}
use Rattle.std.specs.Char.{is_ascii_digit}
use native.Mathlib.Decide.{dec_le}
use native.Mathlib.Nat.{lt_of_not-le}
use Rattle.std.specs.Option.{is_some}
use lib.Dec.{eqb, leb}
use lib.ListN.{length, get_or, take, drop, drop_of_length-le}
use lib.Seq.{take_all, drop-cons}
use Rattle.text.specs.Pen.{Pen, written}
use borrow.Author.Tests.{leb-true, ltb-true, le-leb, lt-leb, eq-eqb, ne_eqb}
use Rattle.octets.proofs.BoolLaws.{and_both}
use Rattle.form.specs.Digits.{every, is_within, is_digit, number_from, is_number, worth, is_hex_digit, is_hex, bytes_in}

-- a byte within bounds, and one that is not
within : (low high x : ℕ) → low ≤ x → x ≤ high → is_within low high x ≡ true
unfolding is_within
within low high x h k = rw (le-leb low x h, le-leb x high k)

not_within : (low high x : ℕ) → (low ≤ x → high < x) → is_within low high x ≡ false
unfolding is_within
not_within low high x h = go (dec_le low x)
  where
    go : Dec (low ≤ x) → (leb low x && leb x high) ≡ false
    go (yes k) = rw (le-leb low x k, lt-leb x high (h k))
    go (no k) = rw (lt-leb low x (lt_of_not-le k))

-- the library's test of a digit, as the code makes it
pub digit_as : (x : ℕ) → is_ascii_digit x ≡ is_digit x
unfolding is_digit is_within
digit_as x = refl

pub digit_low : (x : ℕ) → is_digit x ≡ true → 48 ≤ x
unfolding is_digit is_within
digit_low x h = leb-true 48 x (and_both (leb 48 x) (leb x 57) h).0

-- what a byte is worth
pub worth_digit : (x : ℕ) → 48 ≤ x → x ≤ 57 → worth x ≡ x - 48
unfolding worth is_digit
worth_digit x h k = rw (within 48 57 x h k)

pub worth_small : (x : ℕ) → 97 ≤ x → x ≤ 102 → worth x ≡ x - 87
unfolding worth is_digit
worth_small x h k = rw (not_within 48 57 x (λ l. omega arith), within 97 102 x h k)

pub worth_large : (x : ℕ) → 65 ≤ x → x ≤ 70 → worth x ≡ x - 55
unfolding worth is_digit
worth_large x h k = rw (not_within 48 57 x (λ l. omega arith), not_within 97 102 x (λ l. omega arith), within 65 70 x h k)

pub worth_none : (x : ℕ) → (48 ≤ x → 57 < x) → (97 ≤ x → 102 < x) → (65 ≤ x → 70 < x) → worth x ≡ 16
unfolding worth is_digit
worth_none x h k l = rw (not_within 48 57 x h, not_within 97 102 x k, not_within 65 70 x l)

-- the library's test of each digit, as the code makes it
pub every_as : (f : ℕ → Bool) (s : List ℕ) → list_all f s ≡ every f s
unfolding every
every_as f [] = refl
every_as f (x ∷ s) = ap (λ (b : Bool). f x && b) (every_as f s)

-- whether every byte passes a test: a turn, a byte that does not, and the end
module _ (f : ℕ → Bool) (s : List ℕ) (i : ℕ) (h : i < length s) where
  pub every_turn : f (get_or s i 0) ≡ true → every f (drop i s) ≡ every f (drop (i + 1) s)
  unfolding every
  every_turn e = rw (drop-cons s i 0 h, e, add-one)

  pub every_not : f (get_or s i 0) ≡ false → every f (drop i s) ≡ false
  unfolding every
  every_not e = rw (drop-cons s i 0 h, e)

pub every_end : (f : ℕ → Bool) (s : List ℕ) (i : ℕ) → length s ≤ i → every f (drop i s) ≡ true
unfolding every
every_end f s i h = rw (drop_of_length-le s h)

pub every_at : (f : ℕ → Bool) (s : List ℕ) (i : ℕ) → every f s ≡ true → i < length s → f (get_or s i 0) ≡ true
unfolding every
every_at f [] i e h = absurd (omega arith)
every_at f (x ∷ s) zero e h = (and_both (f x) (every f s) e).0
every_at f (x ∷ s) (suc i) e h = every_at f s i (and_both (f x) (every f s) e).1 (omega arith)

-- a number: a turn, the end, and that more digits do not make it smaller
pub number_turn : (v : ℕ) (s : List ℕ) (i : ℕ) → i < length s → number_from v (drop i s) ≡ number_from (v * 10 + (get_or s i 0 - 48)) (drop (i + 1) s)
unfolding number_from
number_turn v s i h = rw (drop-cons s i 0 h, add-one)

pub number_end : (v : ℕ) (s : List ℕ) (i : ℕ) → length s ≤ i → number_from v (drop i s) ≡ v
unfolding number_from
number_end v s i h = rw (drop_of_length-le s h)

pub number_grows : (v : ℕ) (s : List ℕ) → v ≤ number_from v s
unfolding number_from
number_grows v [] = omega arith
number_grows v (x ∷ s) = omega (arith, number_grows (v * 10 + (x - 48)) s)

pub is_number_lem : (most : ℕ) (s : List ℕ) → 0 < length s → every is_digit s ≡ true → number_from 0 s ≤ most → is_number most s ≡ true
unfolding is_number
is_number_lem most s h d l = rw (ne_eqb (length s) 0 (λ e. absurd (omega arith)), d, le-leb (number_from 0 s) most l)

pub no_digits : (most : ℕ) (s : List ℕ) → length s ≡ 0 → is_number most s ≡ false
unfolding is_number
no_digits most s h = rw (eq-eqb (length s) 0 h)

and_not : (a b : Bool) → b ≡ false → (a && b) ≡ false
and_not true b h = h
and_not false b h = refl

pub no_digit : (most : ℕ) (s : List ℕ) → every is_digit s ≡ false → is_number most s ≡ false
unfolding is_number
no_digit most s h = and_not (not (eqb (length s) 0)) _ (rw h)

pub too_large : (most : ℕ) (s : List ℕ) → most < number_from 0 s → is_number most s ≡ false
unfolding is_number
too_large most s h = and_not (not (eqb (length s) 0)) _ (and_not (every is_digit s) _ (lt-leb (number_from 0 s) most h))

-- hexadecimal digits
pub hex_worth : (x : ℕ) → is_hex_digit x ≡ true → worth x < 16
unfolding is_hex_digit
hex_worth x h = ltb-true (worth x) 16 h

pub hex_length : (n : ℕ) (s : List ℕ) → (length s ≡ n → ⊥) → is_hex n s ≡ false
unfolding is_hex
hex_length n s h = rw (ne_eqb (length s) n h)

-- the bytes that they say: how many, and each
pub bytes_in_length : (s : List ℕ) → length (bytes_in s) ≡ length s / 2
unfolding bytes_in
bytes_in_length [] = refl
bytes_in_length (x ∷ []) = refl
bytes_in_length (x ∷ y ∷ s) = omega (arith, bytes_in_length s)

-- a pair, and what is behind it, as code cuts it off; and where there is no pair
pub pair_hex : (f : ℕ → Bool) (s : List ℕ) → 2 ≤ length s → every f s ≡ true → every f (take (length s - 2) (drop 2 s)) ≡ true
unfolding every
pair_hex f [] h e = absurd (omega arith)
pair_hex f (x ∷ []) h e = absurd (omega arith)
pair_hex f (x ∷ y ∷ s) h e = rw (take_all (length (x ∷ y ∷ s) - 2) s (omega arith)) (and_both (f y) (every f s) (and_both (f x) _ e).1).1

pub pair_put : (s : List ℕ) (p q : Pen) (b : ℕ) → 2 ≤ length s → b ≡ 16 * worth (get_or s 0 0) + worth (get_or s 1 0) → q ≡ written (b ∷ []) p
    → written (bytes_in (take (length s - 2) (drop 2 s))) q ≡ written (bytes_in s) p
unfolding bytes_in written
pair_put [] p q b h e f = absurd (omega arith)
pair_put (x ∷ []) p q b h e f = absurd (omega arith)
pair_put (x ∷ y ∷ s) p q b h e f = rw (take_all (length (x ∷ y ∷ s) - 2) s (omega arith), f, e)

pub no_pair : (s : List ℕ) → length s < 2 → bytes_in s ≡ []
unfolding bytes_in
no_pair [] h = refl
no_pair (x ∷ []) h = refl
no_pair (x ∷ y ∷ s) h = absurd (omega arith)

-- an answer says whether the digits say a number
pub some_if : (b : Bool) (v : ℕ) → is_some (cond b (Some v) None) ≡ b
some_if true v = refl
some_if false v = refl
