-- Pieces of one length, as `as_chunks` cuts a slice into them.
-- Assumes nothing.
use Prim.Native.Nat.{ℕ, zero, suc, ◌+◌, ◌*◌, ◌<◌}
use mathlib.Core.Path.{◌≡◌, refl, ap, ◌∙◌}
use mathlib.Core.List.{List}
use native.Mathlib.Omega.{arith}
use lib.ListN.{length, get_or, take, drop}
use lib.Seq.{drop-drop}
use Rattle.std.specs.Simd.{first_chunks}

-- piece i of the first k
pub chunk_at : (n k i : ℕ) (s d : List ℕ) → i < k → get_or (first_chunks n k s) i d ≡ take n (drop (i * n) s)
chunk_at n zero i s d h = absurd (omega arith)
chunk_at n (suc k) zero s d h =
    let e : 0 ≡ zero * n = omega arith in
    ap (λ (j : ℕ). take n (drop j s)) e
chunk_at n (suc k) (suc i) s d h =
    let e : n + i * n ≡ suc i * n = omega arith in
    chunk_at n k i (drop n s) d (omega arith) ∙ ap (take n) (drop-drop (i * n) n s) ∙ ap (λ (j : ℕ). take n (drop j s)) e

pub chunks_length : (n k : ℕ) (s : List ℕ) → length (first_chunks n k s) ≡ k
chunks_length n zero s = refl
chunks_length n (suc k) s = ap suc (chunks_length n k (drop n s))
