-- The two editions: document 01's numbers for the first, request No. 4's for the second, and how a file's length tells them apart.
-- Assumes nothing.
use Prim.Native.Nat.{ℕ, ◌+◌, ◌-◌, ◌%◌, ◌<◌, ◌≤◌}
use mathlib.Core.Path.{◌≡◌, refl, sym, ◌∙◌}
use mathlib.Core.Logic.{◌⊎◌, inl, inr, ⊎_elim, ◌↔◌}
use mathlib.Core.Bool.{true, ◌||◌}
use mathlib.Core.List.{List}
use native.Mathlib.Decide.{ℕ_discrete}
use native.Mathlib.Nat.{mod-eq_of_lt}
use native.Mathlib.Omega.{arith}
use borrow.Author.Tests.{eqb-true, eq-eqb, ne_eqb}
use lib.Dec.{eqb}
use lib.ListN.{length}
use Rattle.casefile.specs.Layout.{description, old_note_lengths, new_note_lengths, lengths, total, offset, case_length, first_proof, second_proof, proof_length, proof}
use Rattle.casefile.specs.Fields.{has_length}
use Rattle.casefile.proofs.LayoutLaws.{moved, unmoved, whole_moved}

-- the description's length in each, and the file's
descriptions : (total (description first_proof) ≡ 1802) × (total (description second_proof) ≡ 1698)
unfolding total description
descriptions = (refl, refl)

pub first_long : case_length first_proof ≡ 4210
unfolding case_length total lengths description old_note_lengths new_note_lengths
first_long = refl

pub second_long : case_length second_proof ≡ 4106
unfolding case_length total lengths description old_note_lengths new_note_lengths
second_long = refl

-- every offset after the proof differs by 104, and none before it does
moved_by_104 : (k : ℕ) → proof < k → offset first_proof k ≡ offset second_proof k + 104
moved_by_104 k h = moved first_proof k h ∙ omega (arith, moved second_proof k h)

all_else_there : (k : ℕ) → k ≤ proof → offset first_proof k ≡ offset second_proof k
all_else_there k h = unmoved first_proof k h ∙ sym (unmoved second_proof k h)

-- a file's length decides how long its proof is
pub proof_by_length : (c d : List ℕ) → length c ≡ length d → proof_length c ≡ proof_length d
unfolding proof_length
proof_by_length c d e = rw e

-- the bytes beside the proof, in either edition
pub beside : case_length 0 ≡ 3914
unfolding case_length total lengths description old_note_lengths new_note_lengths
beside = refl

pub proof_bytes : (c : List ℕ) → proof_length c ≡ length c - 3914
unfolding proof_length
proof_bytes c = rw beside

proof_told : (c : List ℕ) → (length c ≡ 4210 → proof_length c ≡ first_proof) × (length c ≡ 4106 → proof_length c ≡ second_proof)
proof_told c = (λ e. omega (arith, proof_bytes c), λ e. omega (arith, proof_bytes c))

-- a file has a case's length where it has that of one edition
pub either_length : (c : List ℕ) → (eqb (length c) 4210 || eqb (length c) 4106) ≡ has_length c
unfolding has_length
either_length c = rw (first_long, second_long)

-- of the lengths from the shorter to the longer, these two are a multiple of 104 above the shorter
pub by_104 : (c : List ℕ) → 4106 ≤ length c → length c ≤ 4210 → eqb ((length c - 4106) % 104) 0 ≡ has_length c
by_104 c l m = go (ℕ_discrete (length c) 4210) (ℕ_discrete (length c) 4106) ∙ either_length c
  where
    go : Dec (length c ≡ 4210) → Dec (length c ≡ 4106) → eqb ((length c - 4106) % 104) 0 ≡ (eqb (length c) 4210 || eqb (length c) 4106)
    go (yes e) o = rw e
    go (no n) (yes e) = rw e
    go (no n) (no o) =
        let s : length c - 4106 < 104 = omega arith in
        rw (ne_eqb (length c) 4210 n, ne_eqb (length c) 4106 o, mod-eq_of_lt s) (ne_eqb (length c - 4106) 0 (λ z. absurd (omega arith)))

pub two_lengths : (c : List ℕ) → (has_length c ≡ true) ↔ ((length c ≡ 4210) ⊎ (length c ≡ 4106))
two_lengths c = (
  λ h. go (either_length c ∙ h) (ℕ_discrete (length c) 4210),
  ⊎_elim (λ e. sym (either_length c) ∙ rw (eq-eqb (length c) 4210 e)) (λ e. sym (either_length c) ∙ rw (ne_eqb (length c) 4210 (λ f. absurd (omega arith)), eq-eqb (length c) 4106 e)),
)
  where
    go : (eqb (length c) 4210 || eqb (length c) 4106) ≡ true → Dec (length c ≡ 4210) → (length c ≡ 4210) ⊎ (length c ≡ 4106)
    go h (yes e) = inl e
    go h (no n) = inr (eqb-true (length c) 4106 (rw (ne_eqb (length c) 4210 n) at h))

-- a whole file is as long as its fields together
pub whole_long : (c : List ℕ) → has_length c ≡ true → length c ≡ case_length (proof_length c)
whole_long c h = ⊎_elim (λ e. omega (arith, far)) (λ e. omega (arith, far)) ((two_lengths c).0 h)
  where
    far : case_length (proof_length c) ≡ length c - 3914 + 3914
    far = whole_moved (proof_length c) ∙ rw (beside, proof_bytes c)
