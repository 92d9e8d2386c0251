-- Two fields of 32 bytes, compared by four numbers of eight bytes each.
-- Assumes nothing.
use Prim.Native.Nat.{ℕ, suc, ◌+◌, ◌*◌, ◌<◌}
use mathlib.Core.Path.{◌≡◌, sym, ap, ap₂, ◌∙◌}
use mathlib.Core.Bool.{true, false}
use mathlib.Core.List.{List, [], ◌∷◌, ◌++◌}
use native.Mathlib.Omega.{arith}
use lib.ListN.{length, get_or}
use Rattle.octets.specs.Parts.{Bytes, field, same}
use Rattle.octets.specs.Numbers.{little, little_bytes}
use Rattle.octets.proofs.ByteLaws.{field_bytes_lem, field_again}
use Rattle.octets.proofs.PartLaws.{field_all, field_join, same_eq, same_refl}
use Rattle.refusals.proofs.RuleLaws.{by_test}
use Rattle.casefile.specs.Layout.{part_of}
use Rattle.casefile.specs.Fields.{nullifier_of}

-- memory holds bytes
pub each_byte : (s : List ℕ) → ((i : ℕ) → get_or s i 0 < 256) → Bytes s
unfolding Bytes
each_byte [] h = tt
each_byte (x ∷ s) h = (h 0, each_byte s (λ i. h (suc i)))

-- and so does a nullifier of a case
pub nullifier_bytes : (i : ℕ) (c : List ℕ) → Bytes c → Bytes (nullifier_of i c)
unfolding nullifier_of part_of
nullifier_bytes i c h = field_bytes_lem _ _ c h

module _ (a b : List ℕ) where
  -- a word that differs tells them apart
  pub word_differs : (k : ℕ) → (little (field (8 * k) 8 a) ≡ little (field (8 * k) 8 b) → ⊥) → same a b ≡ false
  word_differs k h = by_test (same a b) (λ e. absurd (h (ap (λ (s : List ℕ). little (field (8 * k) 8 s)) (same_eq a b e)))) (λ e. e)

  -- one word more that is equal
  pub word_more : (k : ℕ) → Bytes a → Bytes b → little (field (8 * k) 8 a) ≡ little (field (8 * k) 8 b)
      → field 0 (8 * k) a ≡ field 0 (8 * k) b → field 0 (8 * (k + 1)) a ≡ field 0 (8 * (k + 1)) b
  word_more k ha hb e before =
      let z : 0 + 8 * k ≡ 8 * k = omega arith in
      let next : field (0 + 8 * k) 8 a ≡ field (0 + 8 * k) 8 b = rw z (sym (field_again (8 * k) 8 a ha) ∙ ap (little_bytes 8) e ∙ field_again (8 * k) 8 b hb) in
      let n : 8 * (k + 1) ≡ 8 * k + 8 = omega arith in
      rw n (sym (field_join 0 (8 * k) 8 a) ∙ ap₂ ◌++◌ before next ∙ field_join 0 (8 * k) 8 b)

  -- four that are equal are all
  pub words_same : length a ≡ 32 → length b ≡ 32 → field 0 32 a ≡ field 0 32 b → same a b ≡ true
  words_same la lb e =
      let q : a ≡ b = sym (field_all a) ∙ rw (la, lb) e ∙ field_all b in
      rw q (same_refl b)
