-- The answer at a length that is allowed, and at one that is not.
-- Assumes nothing.
use Rattle.std.proofs.Common.{◌≡◌, ℕ, ◌-◌, ◌<◌, ◌≤◌, List, ◌++◌, Some, None, arith, lt-ltb, le-leb}
use mathlib.Core.Logic.{◌⊎◌, inl, inr}
use borrow.Author.Tests.{lt-leb}
use Rattle.octets.specs.Parts.{zeros, field}
use Rattle.blake2b.specs.Compression.{bytes_of}
use Rattle.blake2b.specs.Hashing.{initial, absorbed, blake2b_of}
use Rattle.blake2b.specs.Answer.{digest_of}

module _ (nn : ℕ) (p m : List ℕ) where
  pub none : (nn ≡ 0) ⊎ ((nn ≡ 0 → ⊥) × (64 < nn)) → None ≡ digest_of nn p m
  unfolding digest_of
  none (inl e) = rw e
  none (inr h) =
      let l : 0 < nn = omega arith in
      rw (lt-ltb 0 nn l, lt-leb nn 64 h.1)

  pub allowed : (g h d : List ℕ) → 0 < nn → nn ≤ 64 → g ≡ initial nn p → h ≡ absorbed g m → d ≡ field 0 nn (bytes_of h) ++ zeros (64 - nn) → Some d ≡ digest_of nn p m
  unfolding digest_of blake2b_of
  allowed g h d l u a b e = rw (lt-ltb 0 nn l, le-leb nn 64 u, e, b, a)
