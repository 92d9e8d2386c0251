-- The library's words for a number's bytes are the crate's own, at each width: what a caller of `from_le_bytes` and the like cites.
-- Assumes nothing.
use mathlib.Core.Path.{◌≡◌, refl, sym, ap, ap₂, ◌∙◌}
use mathlib.Core.List.{List, [], ◌∷◌, ◌++◌}
use Prim.Native.Nat.{ℕ, zero, suc, ◌+◌, ◌-◌, ◌*◌, ◌/◌, ◌%◌, ◌^◌, ◌<◌}
use native.Mathlib.Nat.{div-one, div-div-eq-div-mul, mul_assoc, pow-suc}
use native.Mathlib.Omega.{arith}
use lib.ListN.{length, get_or, take, drop, drop_of_length-le, length-drop}
use lib.Seq.{drop-cons, length-take-le, take-length, take-suc}
use Rattle.std.specs.Int.{Width, w8, w16, w32, w64, w128, byte_len, byte_at, byte_worth, bytes_low_first, bytes_high_first, sum_through, from_le_bytes, from_be_bytes, to_le_bytes, to_be_bytes}
use Rattle.octets.specs.Numbers.{little, big, little_bytes, big_bytes}

-- a byte of a number, and what it is worth, also at place 0
worth : (i x : ℕ) → byte_worth i x ≡ x * 256 ^ i
worth zero x = omega arith
worth (suc i) x = refl

byte : (i n : ℕ) → byte_at i n ≡ n / 256 ^ i % 256
byte zero n = ap (λ (m : ℕ). m % 256) (sym (div-one n))
byte (suc i) n = refl

-- a number written
low_first : (i k n : ℕ) → bytes_low_first i k n ≡ little_bytes k (n / 256 ^ i)
unfolding little_bytes
low_first i zero n = refl
low_first i (suc k) n =
    let e : n / 256 ^ suc i ≡ n / 256 ^ i / 256 = ap (λ (m : ℕ). n / m) (pow-suc 256 i) ∙ sym (div-div-eq-div-mul n (256 ^ i) 256) in
    ap₂ ◌∷◌ (byte i n) (low_first (suc i) k n ∙ ap (little_bytes k) e)

high_first : (k n : ℕ) → bytes_high_first k n ≡ big_bytes k n
unfolding big_bytes
high_first zero n = refl
high_first (suc k) n = ap₂ ◌∷◌ (byte k n) (high_first k n)

pub little_to : (w : Width) (n : ℕ) → to_le_bytes w n ≡ little_bytes (byte_len w) n
little_to w n = low_first 0 (byte_len w) n ∙ ap (little_bytes (byte_len w)) (div-one n)

pub big_to : (w : Width) (n : ℕ) → to_be_bytes w n ≡ big_bytes (byte_len w) n
big_to w n = high_first (byte_len w) n

-- one byte more behind the others
little_snoc : (s : List ℕ) (x : ℕ) → little (s ++ (x ∷ [])) ≡ little s + x * 256 ^ length s
unfolding little
little_snoc [] x = omega arith
little_snoc (y ∷ s) x = rw (little_snoc s x, pow-suc 256 (length s)) (omega (arith, mul_assoc x (256 ^ length s) 256))

-- a number read: the sum over the first bytes is the number that these write
sum_low : (k : ℕ) (b : List ℕ) → k < length b → sum_through (λ i. byte_worth i (get_or b i 0)) k ≡ little (take (suc k) b)
unfolding little
sum_low zero [] h = absurd (omega arith)
sum_low zero (x ∷ b) h = omega arith
sum_low (suc k) b h =
    let l : length (take (suc k) b) ≡ suc k = length-take-le (suc k) b (omega arith) in
    rw (take-suc b (suc k) 0 h, little_snoc (take (suc k) b) (get_or b (suc k) 0), l, sum_low k b (omega arith))

-- the same from the highest byte on: the sum so far, and what the bytes behind it write, are the whole
sum_high : (m k : ℕ) (b : List ℕ) → length b ≡ suc m → k < length b → sum_through (λ i. byte_worth (m - i) (get_or b i 0)) k + big (drop (suc k) b) ≡ big b
unfolding big
sum_high m zero [] l h = absurd (omega arith)
sum_high m zero (x ∷ b) l h =
    let e : m - 0 ≡ length b = omega arith in
    rw (worth (m - 0) x, e)
sum_high m (suc k) b l h =
    let x = get_or b (suc k) 0 in
    let rest = drop (suc (suc k)) b in
    let e : m - suc k ≡ length rest = omega (arith, length-drop (suc (suc k)) b) in
    let t : big (drop (suc k) b) ≡ x * 256 ^ length rest + big rest = ap big (drop-cons b (suc k) 0 h) in
    let y : byte_worth (m - suc k) x ≡ x * 256 ^ length rest = worth (m - suc k) x ∙ ap (λ (n : ℕ). x * 256 ^ n) e in
    omega (arith, sum_high m k b l (omega arith))

wide : (w : Width) → 0 < byte_len w
wide w8 = omega arith
wide w16 = omega arith
wide w32 = omega arith
wide w64 = omega arith
wide w128 = omega arith

module _ (w : Width) (b : List ℕ) (h : length b ≡ byte_len w) where
  pub little_from : from_le_bytes w b ≡ little b
  little_from =
      let e : suc (byte_len w - 1) ≡ length b = omega (arith, wide w) in
      sum_low (byte_len w - 1) b (omega arith) ∙ ap (λ (n : ℕ). little (take n b)) e ∙ ap little (take-length b)

  pub big_from : from_be_bytes w b ≡ big b
  unfolding big
  big_from =
      let m = byte_len w - 1 in
      let e : length b ≡ suc m = omega (arith, wide w) in
      let none : drop (suc m) b ≡ [] = drop_of_length-le b {i = suc m} (omega arith) in
      let t : big (drop (suc m) b) ≡ 0 = ap big none in
      omega (arith, sum_high m m b e (omega arith))
