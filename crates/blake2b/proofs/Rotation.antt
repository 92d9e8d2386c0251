-- A word rotated by the library's method, which joins the two parts by or, and in RFC 7693's words, which joins them by xor: they have no bit in common.
-- Assumes nothing.
use Rattle.std.proofs.Common.{◌≡◌, ℕ, ◌+◌, ◌-◌, ◌*◌, ◌/◌, ◌%◌, ◌^◌, ◌<◌, sym, ap, ap₂, ◌∙◌, arith}
use native.Mathlib.Nat.{div-lt_iff_lt-mul, mul_comm, mul-div_cancel, mul-mod_left, one-le-pow}
use Rattle.std.specs.Int.{w64, rotate_right}
use Rattle.std.specs.Int.Bits.{bit_and, bit_or, bit_xor, and_zero_l, and_zero_r, xor_disjoint}
use Rattle.std.proofs.lemmas.Nat.{pow-add, mod-pow-add, or_disjoint, and_block}
use Rattle.blake2b.specs.Compression.{rotr}

pub rotated : (n x : ℕ) → 0 < n → n < 64 → x < 2 ^ 64 → rotate_right w64 x n ≡ rotr 64 n x
unfolding rotr
rotated n x h l m =
    let k = 64 - n in
    let a = x / 2 ^ n in
    let b = x * 2 ^ k % 2 ^ 64 in
    let y = x % 2 ^ n in
    let s : 64 ≡ n + k = omega arith in
    let p : 2 ^ 64 ≡ 2 ^ k * 2 ^ n = ap (λ (i : ℕ). 2 ^ i) s ∙ pow-add 2 n k ∙ mul_comm (2 ^ n) (2 ^ k) in
    let low : a < 2 ^ k = (div-lt_iff_lt-mul (one-le-pow n 2 (omega arith))).1 (omega (arith, p)) in
    let high : b ≡ y * 2 ^ k + 0 =
    ap (λ (i : ℕ). x * 2 ^ k % 2 ^ i) s ∙ mod-pow-add (x * 2 ^ k) n k
    ∙ ap₂ (λ (i j : ℕ). i % 2 ^ n * 2 ^ k + j) (mul-div_cancel x (one-le-pow k 2 (omega arith))) (mul-mod_left x (2 ^ k)) in
    let meet : bit_and (0 * 2 ^ k + a) (y * 2 ^ k + 0) ≡ bit_and 0 y * 2 ^ k + bit_and a 0 = and_block k 0 y a 0 low (one-le-pow k 2 (omega arith)) in
    let z : a ≡ 0 * 2 ^ k + a = omega arith in
    let none : bit_and 0 y * 2 ^ k + bit_and a 0 ≡ 0 = rw (and_zero_l y, and_zero_r a) (omega arith) in
    let apart : bit_and a b ≡ 0 = ap₂ bit_and z high ∙ meet ∙ none in
    let e : n % 64 ≡ n = omega arith in
    let f : (64 - n) % 64 ≡ 64 - n = omega arith in
    let same : bit_or a b ≡ bit_xor a b = or_disjoint a b apart ∙ sym (xor_disjoint a b apart) in
    rw (e, f) same
