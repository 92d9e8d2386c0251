-- WHAT A SEAL'S BODY SAYS: `seal` reads from the bytes the gate and the raw reading that they were made of.
-- Assumes nothing.
use Rattle.std.proofs.Common.{◌≡◌, ℕ, suc, ◌+◌, ◌^◌, ◌<◌, false, T, eqb, ltb, List, [], ◌∷◌, ◌++◌, length, sym, refl, ap, ◌∙◌, ap₂, append_assoc, append-nil, arith, length-append, eq-eqb}
use mathlib.Core.Bool.{and-false}
use lib.Ieee.{Float, binary64, to_bits, fits}
use lib.Ieee.Bits.{of_bits-to_bits, to_bits-lt}
use Rattle.octets.specs.Parts.{zeros}
use Rattle.octets.proofs.NumberLaws.{little_bytes_lem}
use Rattle.octets.proofs.PartLaws.{same_refl}
use Rattle.seal.specs.declared.Gate.{Gate}
use Rattle.seal.specs.declared.Gate.TheVariants.{None, AtLeast, Between}
use Rattle.std.specs.Prelude.{Ok}
use Rattle.seal.specs.Body.{kind, low, high, raw, float_of, is_zero, gate_of, unused_limit_set, is_broken, read_of}
use Rattle.refusals.proofs.RuleLaws.{by_test}
use Rattle.packing.specs.Words.{word}
use Rattle.packing.specs.Seals.{float_bytes, seal_bytes, gate_in, raw_in, seal_of}
use Rattle.packing.proofs.BagLaws.{part_at}
use Rattle.packing.proofs.FloatLaws.{number_fits}
use Rattle.packing.proofs.TextLaws.{float_bytes_length, seal_length}

-- a number, from its bytes
float_back : (x : Float) → T (fits binary64 x) → float_of (float_bytes x) ≡ x
unfolding float_of float_bytes
float_back x h =
    let l : to_bits binary64 x < 256 ^ 8 = to_bits-lt binary64 x h in
    rw (little_bytes_lem 8 (to_bits binary64 x) l) (of_bits-to_bits binary64 x h)

-- the fields of a body, which are eight bytes each
module _ (k : ℕ) (a b r : List ℕ) (ha : length a ≡ 8) (hb : length b ≡ 8) (hr : length r ≡ 8) where
  low_is : low (k ∷ a ++ b ++ r) ≡ a
  low_is = ap low (append_assoc (k ∷ a) b r) ∙ part_at (k ∷ []) a (b ++ r) 1 8 refl ha

  high_is : high (k ∷ a ++ b ++ r) ≡ b
  high_is = ap high (append_assoc (k ∷ a) b r) ∙ part_at (k ∷ a) b r 9 8 (ap (λ (n : ℕ). suc n) ha) hb

  raw_is : raw (k ∷ a ++ b ++ r) ≡ r
  raw_is = ap (λ (t : List ℕ). raw (k ∷ a ++ b ++ t)) (sym (append-nil r)) ∙ part_at (k ∷ a ++ b) r [] 17 8 (omega (arith, length-append a b)) hr

-- what bytes without a breach say
read_as : (s : List ℕ) (g : Gate) (x : Float) → length s ≡ 25 → ltb 2 (kind s) ≡ false → unused_limit_set (kind s) 1 (low s) ≡ false
    → unused_limit_set (kind s) 2 (high s) ≡ false → gate_of s ≡ g → float_of (raw s) ≡ x → read_of s ≡ Ok (record { gate = g; raw = x })
unfolding read_of is_broken
read_as s g x n k l h e f = rw (eq-eqb (length s) 25 n, k, l, h, e, f)

zero_unset : (k from : ℕ) (s : List ℕ) → s ≡ zeros 8 → unused_limit_set k from s ≡ false
unfolding unused_limit_set is_zero
zero_unset k from s e = rw (e, same_refl (zeros 8), and-false)

-- the gate's limits are binary64 numbers
unfoldable pub LimitsFit : Gate → Type 0
LimitsFit None = Unit {0}
LimitsFit (AtLeast low) = T (fits binary64 low)
LimitsFit (Between low high) = T (fits binary64 low) × T (fits binary64 high)

pub read_back : (g : Gate) (x : Float) → LimitsFit g → T (fits binary64 x) → read_of (seal_bytes g x) ≡ Ok (record { gate = g; raw = x })
unfolding LimitsFit seal_bytes gate_of unused_limit_set
read_back None x h hx =
    let z = zeros 8 in
    let r = float_bytes x in
    let hr = float_bytes_length x in
    read_as (0 ∷ z ++ z ++ r) None x (seal_length None x) refl (zero_unset 0 1 _ (low_is 0 z z r refl refl hr)) (zero_unset 0 2 _ (high_is 0 z z r refl refl hr)) refl
    (ap float_of (raw_is 0 z z r refl refl hr) ∙ float_back x hx)
read_back (AtLeast l) x h hx =
    let z = zeros 8 in
    let a = float_bytes l in
    let r = float_bytes x in
    let ha = float_bytes_length l in
    let hr = float_bytes_length x in
    read_as (1 ∷ a ++ z ++ r) (AtLeast l) x (seal_length (AtLeast l) x) refl refl (zero_unset 1 2 _ (high_is 1 a z r ha refl hr))
    (ap (λ (t : List ℕ). AtLeast (float_of t)) (low_is 1 a z r ha refl hr) ∙ ap AtLeast (float_back l h))
    (ap float_of (raw_is 1 a z r ha refl hr) ∙ float_back x hx)
read_back (Between l u) x h hx =
    let a = float_bytes l in
    let b = float_bytes u in
    let r = float_bytes x in
    let ha = float_bytes_length l in
    let hb = float_bytes_length u in
    let hr = float_bytes_length x in
    read_as (2 ∷ a ++ b ++ r) (Between l u) x (seal_length (Between l u) x) refl refl refl
    (ap₂ (λ (s t : List ℕ). Between (float_of s) (float_of t)) (low_is 2 a b r ha hb hr) (high_is 2 a b r ha hb hr) ∙ ap₂ Between (float_back l h.0) (float_back u h.1))
    (ap float_of (raw_is 2 a b r ha hb hr) ∙ float_back x hx)

-- of the seal that a line says
limits_fit : (k : ℕ) (line : List ℕ) → LimitsFit (gate_in k line)
unfolding gate_in LimitsFit
limits_fit k line =
    by_test (eqb k 0)
    (λ h. rw h tt)
    (λ h. by_test (eqb k 1) (λ l. rw (h, l) (number_fits (word 1 line))) (λ l. rw (h, l) (number_fits (word 1 line), number_fits (word 2 line))))

pub line_read_back : (k : ℕ) (line : List ℕ) → read_of (seal_of k line) ≡ Ok (record { gate = gate_in k line; raw = raw_in k line })
unfolding raw_in
line_read_back k line = read_back (gate_in k line) (raw_in k line) (limits_fit k line) (number_fits (word (k + 1) line))
