-- Runs of blocks: a message's whole blocks, and then its last bytes with the padding.
-- Assumes nothing.
use mathlib.Core.Path.{◌≡◌, refl, sym, ap, ap₂, ◌∙◌}
use mathlib.Core.List.{List, ◌∷◌, ◌++◌, append_assoc}
use Prim.Native.Nat.{ℕ, zero, suc, ◌+◌, ◌-◌, ◌*◌, ◌/◌, ◌%◌, ◌≤◌, ◌<◌}
use native.Mathlib.Nat.{add-zero, add-suc}
use native.Mathlib.Numerals.{add-one}
use native.Mathlib.Omega.{arith}
use lib.ListN.{length, take, drop, length-append, take-append-drop}
use lib.Seq.{take_all, length-take-le}
use Rattle.octets.specs.Parts.{zeros, field}
use Rattle.octets.specs.Numbers.{big_bytes}
use Rattle.octets.proofs.PartLaws.{field_part, field_left, field_right}
use Rattle.sha256.specs.declared.State.{State}
use Rattle.sha256.specs.Compression.{start_of, compress_from, state_bytes}
use Rattle.sha256.specs.Hash.{padding, padded, block_at, blocks, sha256_of}

-- blocks of a are not touched by what lies behind it
front : (n : ℕ) (s : State) (a b : List ℕ) → 64 * n ≤ length a → blocks n s (a ++ b) ≡ blocks n s a
unfolding blocks block_at
front zero s a b h = refl
front (suc n) s a b h = ap₂ compress_from (front n s a b (omega arith)) (field_left (64 * n) 64 a b (omega arith))

-- the blocks of a, and then k blocks of b
after : (q k : ℕ) (s : State) (a b : List ℕ) → length a ≡ 64 * q → blocks (q + k) s (a ++ b) ≡ blocks k (blocks q s a) b
unfolding blocks block_at
after q zero s a b h = ap (λ (n : ℕ). blocks n s (a ++ b)) (add-zero q) ∙ front q s a b (omega arith)
after q (suc k) s a b h =
    ap (λ (n : ℕ). blocks n s (a ++ b)) (add-suc q k) ∙ ap₂ compress_from (after q k s a b h) (field_right (64 * (q + k)) (64 * k) 64 a b (omega arith))

-- one block more of a message
pub onward : (i : ℕ) (s r : State) (m : List ℕ) → i * 64 + 64 ≤ length m → s ≡ blocks i start_of m → r ≡ compress_from s (take 64 (drop (i * 64) m)) → r ≡ blocks (i + 1) start_of m
unfolding blocks block_at
onward i s r m h p q =
    let e : i * 64 ≡ 64 * i = omega arith in
    q ∙ ap₂ compress_from p (sym (field_part (i * 64) 64 m h) ∙ ap (λ (n : ℕ). field n 64 m) e) ∙ ap (λ (n : ℕ). blocks n start_of m) (sym (add-one i))

-- one block, and two
pub one : (s r : State) (t : List ℕ) → length t ≡ 64 → r ≡ compress_from s t → r ≡ blocks 1 s t
unfolding blocks block_at
one s r t h p = p ∙ ap (compress_from s) (sym (field_part 0 64 t (omega arith) ∙ take_all 64 t (omega arith)))

pub two : (s u r : State) (t : List ℕ) → length t ≡ 128 → u ≡ compress_from s (take 64 t) → r ≡ compress_from u (take 64 (drop 64 t)) → r ≡ blocks 2 s t
unfolding blocks block_at
two s u r t h p q =
    q ∙ ap₂ compress_from (p ∙ ap (compress_from s) (sym (field_part 0 64 t (omega arith)))) (sym (field_part 64 64 t (omega arith)))

-- the k blocks t that the code ends with are the message's last bytes and its padding
pub closing : (rest t : List ℕ) (n k : ℕ) (s : State) → length rest ≡ n % 64 → length rest + 9 ≤ 64 * k → 64 * k < length rest + 73 → length t ≡ 64 * k
    → t ≡ rest ++ ((0x80 ∷ zeros (64 * k - (length rest + 9))) ++ big_bytes 8 (8 * n)) → blocks k s t ≡ blocks (length (rest ++ padding n) / 64) s (rest ++ padding n)
unfolding padding
closing rest t n k s hr hl hk ht e =
    let z : 64 * k - (length rest + 9) ≡ (64 - (n + 9) % 64) % 64 = omega arith in
    let all : t ≡ rest ++ padding n = e ∙ ap (λ (j : ℕ). rest ++ ((0x80 ∷ zeros j) ++ big_bytes 8 (8 * n))) z in
    let d : k ≡ length t / 64 = omega arith in
    ap (λ (j : ℕ). blocks j s t) d ∙ ap (λ (x : List ℕ). blocks (length x / 64) s x) all

-- a message's whole blocks, and then its last bytes l with the padding
pub whole : (m l : List ℕ) (q : ℕ) (s r : State) → q ≡ length m / 64 → l ≡ drop (q * 64) m → s ≡ blocks q start_of m
    → r ≡ blocks (length (l ++ padding (length m)) / 64) s (l ++ padding (length m)) → state_bytes r ≡ sha256_of m
unfolding sha256_of padded
whole m l q s r hq hl hs hr =
    let a = take (64 * q) m in
    let b = l ++ padding (length m) in
    let la : length a ≡ 64 * q = length-take-le (64 * q) m (omega arith) in
    let e : q * 64 ≡ 64 * q = omega arith in
    let rest : l ≡ drop (64 * q) m = hl ∙ ap (λ (n : ℕ). drop n m) e in
    let split : m ≡ a ++ l = sym (take-append-drop (64 * q) m) ∙ ap (λ (x : List ℕ). a ++ x) (sym rest) in
    let all : m ++ padding (length m) ≡ a ++ b = ap (λ (x : List ℕ). x ++ padding (length m)) split ∙ append_assoc a l (padding (length m)) in
    let n : length (m ++ padding (length m)) / 64 ≡ q + length b / 64 = omega (arith, ap length all, length-append a b) in
    let first : s ≡ blocks q start_of a = hs ∙ ap (blocks q start_of) split ∙ front q start_of a l (omega arith) in
    ap state_bytes
    (hr ∙ ap (λ (x : State). blocks (length b / 64) x b) first ∙ sym (after q (length b / 64) start_of a b la)
    ∙ ap₂ (λ (k : ℕ) (x : List ℕ). blocks k start_of x) (sym n) (sym all))
