-- Bytes as hexadecimal digits: how long they are, and that no two lists of bytes have the same digits.
-- Assumes nothing.
use Prim.Native.Nat.{ℕ, zero, suc, ◌+◌, ◌/◌, ◌%◌, ◌^◌, ◌<◌, ◌≤◌}
use mathlib.Core.Path.{◌≡◌, refl, sym, ap, ap₂, ◌∙◌}
use mathlib.Core.List.{List, [], ◌∷◌, ◌++◌, flat_map}
use native.Mathlib.Nat.{lt_of_not-le, mod-lt, one-le-pow, pow-suc, div-lt_iff_lt-mul, div-add-mod'}
use native.Mathlib.Decide.{dec_le}
use native.Mathlib.Omega.{arith}
use borrow.Author.Tests.{lt-ltb, le-ltb}
use Rattle.octets.specs.Numbers.{big, big_bytes}
use Rattle.octets.proofs.NumberLaws.{big_bytes_length, big_bytes_mod}
use Rattle.text.specs.Hex.{hex_digit, hex_byte, hex, hex64}

-- a digit's code, below 10 and from 10 on
pub small_digit : (d : ℕ) → d < 10 → hex_digit d ≡ 48 + d
unfolding hex_digit
small_digit d h = rw (lt-ltb d 10 h)

pub large_digit : (d : ℕ) → 10 ≤ d → hex_digit d ≡ 87 + d
unfolding hex_digit
large_digit d h = rw (le-ltb d 10 h)

-- a byte from its two digits, the high one by division
pub digits_as : (x a b : ℕ) → x < 256 → a ≡ hex_digit (x / 16 % 16) → b ≡ hex_digit (x % 16) → (a ∷ []) ++ (b ∷ []) ≡ hex_byte x
unfolding hex_byte
digits_as x a b h e f =
    let d : x / 16 % 16 ≡ x / 16 = omega arith in
    rw (e, f, d)

-- READ BACK: a digit from its code
digit_back : (a b : ℕ) → hex_digit a ≡ hex_digit b → a ≡ b
digit_back a b e = go (dec_le 10 a) (dec_le 10 b)
  where
    go : Dec (10 ≤ a) → Dec (10 ≤ b) → a ≡ b
    go (yes h) (yes k) = omega (arith, large_digit a h, large_digit b k)
    go (yes h) (no k) = omega (arith, large_digit a h, small_digit b (lt_of_not-le k), lt_of_not-le k)
    go (no h) (yes k) = omega (arith, small_digit a (lt_of_not-le h), large_digit b k, lt_of_not-le h)
    go (no h) (no k) = omega (arith, small_digit a (lt_of_not-le h), small_digit b (lt_of_not-le k))

-- so two lists of bytes with the same digits are the same
pub hex_back : (s t : List ℕ) → hex s ≡ hex t → s ≡ t
unfolding hex flat_map hex_byte
hex_back [] [] e = refl
hex_back [] (y ∷ t) e = let z : ◌≡◌ {A = ℕ} 0 1 = cc in absurd (omega arith)
hex_back (x ∷ s) [] e = let z : ◌≡◌ {A = ℕ} 0 1 = cc in absurd (omega arith)
hex_back (x ∷ s) (y ∷ t) e =
    let high : hex_digit (x / 16) ≡ hex_digit (y / 16) = cc in
    let low : hex_digit (x % 16) ≡ hex_digit (y % 16) = cc in
    let rest : hex s ≡ hex t = cc in
    ap₂ ◌∷◌ (omega (arith, digit_back (x / 16) (y / 16) high, digit_back (x % 16) (y % 16) low)) (hex_back s t rest)

-- and two numbers of 64 bits with the same digits: the number is read back from its bytes, the highest first
big_bytes_lem : (w n : ℕ) → n < 256 ^ w → big (big_bytes w n) ≡ n
unfolding big big_bytes
big_bytes_lem zero n h = omega arith
big_bytes_lem (suc w) n h =
    let one : 0 < 256 ^ w = one-le-pow w 256 (omega arith) in
    let top : n / 256 ^ w < 256 = (div-lt_iff_lt-mul one).1 (omega (arith, pow-suc 256 w)) in
    let high : n / 256 ^ w % 256 ≡ n / 256 ^ w = omega arith in
    let rest : big (big_bytes w n) ≡ n % 256 ^ w = ap big (sym (big_bytes_mod w n)) ∙ big_bytes_lem w (n % 256 ^ w) (mod-lt n one) in
    rw (high, big_bytes_length w n, rest) (div-add-mod' n (256 ^ w))

pub hex64_back : (m n : ℕ) → m < 2 ^ 64 → n < 2 ^ 64 → hex64 m ≡ hex64 n → m ≡ n
unfolding hex64
hex64_back m n h k e = sym (big_bytes_lem 8 m (omega arith)) ∙ ap big (hex_back (big_bytes 8 m) (big_bytes 8 n) e) ∙ big_bytes_lem 8 n (omega arith)
