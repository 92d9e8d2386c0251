-- Bytes of memory: parts of them are bytes, and a number that was read from bytes is written as the same bytes.
-- Assumes nothing.
use Prim.Native.Nat.{ℕ, zero, suc, ◌+◌, ◌*◌, ◌/◌, ◌%◌, ◌^◌, ◌<◌}
use mathlib.Core.Path.{◌≡◌, refl}
use mathlib.Core.List.{List, [], ◌∷◌, ◌++◌}
use native.Mathlib.Nat.{pow-suc}
use native.Mathlib.Omega.{arith}
use lib.ListN.{length, get_or}
use Rattle.octets.specs.Parts.{Bytes, listed, field}
use Rattle.octets.specs.Numbers.{little, little_bytes}
use Rattle.octets.proofs.PartLaws.{field_length}

get_byte : (s : List ℕ) (i : ℕ) → Bytes s → get_or s i 0 < 256
unfolding Bytes
get_byte [] i h = omega arith
get_byte (x ∷ s) zero h = h.0
get_byte (x ∷ s) (suc i) h = get_byte s i h.1

bytes_append : (s t : List ℕ) → Bytes s → Bytes t → Bytes (s ++ t)
unfolding Bytes
bytes_append [] t h k = k
bytes_append (x ∷ s) t h k = (h.0, bytes_append s t h.1 k)

bytes_listed : (f : ℕ → ℕ) (n : ℕ) → ((i : ℕ) → f i < 256) → Bytes (listed f n)
unfolding Bytes listed
bytes_listed f zero h = tt
bytes_listed f (suc n) h = bytes_append (listed f n) (f n ∷ []) (bytes_listed f n h) (h n, tt)

pub field_bytes_lem : (at n : ℕ) (s : List ℕ) → Bytes s → Bytes (field at n s)
unfolding field
field_bytes_lem at n s h = bytes_listed (λ i. get_or s (at + i) 0) n (λ i. get_byte s (at + i) h)

-- how large a number w bytes write
pub little_below : (s : List ℕ) → Bytes s → little s < 256 ^ length s
unfolding Bytes little
little_below [] h = omega arith
little_below (x ∷ s) h = rw (pow-suc 256 (length s)) (omega (arith, h.0, little_below s h.1))

-- the bytes of the number that some bytes write are these bytes
pub bytes_little : (s : List ℕ) → Bytes s → little_bytes (length s) (little s) ≡ s
unfolding Bytes little little_bytes
bytes_little [] h = refl
bytes_little (x ∷ s) h =
    let b : x < 256 = h.0 in
    let m : (x + 256 * little s) % 256 ≡ x = omega arith in
    let d : (x + 256 * little s) / 256 ≡ little s = omega arith in
    rw (m, d, bytes_little s h.1)

-- the same of a field that a reader reads
module _ (at w : ℕ) (s : List ℕ) (h : Bytes s) where
  pub field_below : little (field at w s) < 256 ^ w
  field_below = rw field_length at (little_below (field at w s) (field_bytes_lem at w s h))

  pub field_again : little_bytes w (little (field at w s)) ≡ field at w s
  field_again = rw field_length at (bytes_little (field at w s) (field_bytes_lem at w s h))
