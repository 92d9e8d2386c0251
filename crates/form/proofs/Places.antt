-- THE FIELDS OF A FORM LIE WHERE THE CASE FILE HAS THEM, in either edition: one test, which antt computes over the whole table.
-- Assumes nothing.
use Prim.Native.Nat.{ℕ, ◌+◌, ◌<◌}
use mathlib.Core.Path.{◌≡◌, refl}
use mathlib.Core.Bool.{Bool, true, ◌&&◌}
use mathlib.Core.List.{List, [], ◌∷◌}
use mathlib.Core.Logic.{◌⊎◌, ⊎_elim}
use lib.Dec.{eqb}
use lib.ListN.{get_or}
use borrow.Author.Tests.{eqb-true}
use Rattle.octets.proofs.BoolLaws.{and_both}
use Rattle.casefile.specs.Layout.{description, old_note_lengths, new_note_lengths, lengths, total, offset, case_length, first_proof, second_proof, vpub_old, vpub_new, anchor, ephemeral_key, seed, proof, ciphertext, transaction_key, of_old, of_new, phi}
use Rattle.form.specs.Fields.{size_of, fields, field_at}
use Rattle.form.proofs.FieldLaws.{all_below, at, span, reach}

-- which field of the case file field k is, by the names of its layout
unfoldable pub places : List ℕ
places =
    vpub_old ∷ vpub_new ∷ anchor ∷ ephemeral_key ∷ seed ∷ proof ∷ ciphertext 1 ∷ ciphertext 2 ∷ transaction_key ∷
    of_old 1 0 ∷ of_old 1 2 ∷ of_old 1 3 ∷ of_old 1 4 ∷ of_old 1 5 ∷ of_old 1 6 ∷
    of_old 2 0 ∷ of_old 2 2 ∷ of_old 2 3 ∷ of_old 2 4 ∷ of_old 2 5 ∷ of_old 2 6 ∷
    of_new 1 0 ∷ of_new 1 1 ∷ of_new 1 3 ∷ of_new 2 0 ∷ of_new 2 1 ∷ of_new 2 3 ∷ phi ∷ []

unfoldable pub place : ℕ → ℕ
place k = get_or places k 0

-- the fields before it and the bytes that are worked out end where it starts, and it has as many bytes
lies : ℕ → ℕ → Bool
lies p k = eqb (reach p k + (field_at k).gap) (offset p (place k)) && eqb (size_of p (field_at k).kind) (get_or (lengths p) (place k) 0)

first : all_below (lies first_proof) 28 ≡ true
unfolding all_below lies reach span field_at fields size_of place places offset lengths description old_note_lengths new_note_lengths total
first = refl

second : all_below (lies second_proof) 28 ≡ true
unfolding all_below lies reach span field_at fields size_of place places offset lengths description old_note_lengths new_note_lengths total
second = refl

pub record Lies (p k : ℕ) : Type 0 where
  pub start : reach p k + (field_at k).gap ≡ offset p (place k)
  pub size : size_of p (field_at k).kind ≡ get_or (lengths p) (place k) 0

pub lie : (p k : ℕ) → (p ≡ first_proof) ⊎ (p ≡ second_proof) → k < 28 → Lies p k
unfolding lies
lie p k e h =
    let t : all_below (lies p) 28 ≡ true = ⊎_elim (λ q. rw q first) (λ q. rw q second) e in
    let b = and_both _ _ (at (lies p) 28 t k h) in
    record { start = eqb-true _ _ b.0; size = eqb-true _ _ b.1 }

-- and the last ends where the file does
pub ends : (p : ℕ) → (p ≡ first_proof) ⊎ (p ≡ second_proof) → reach p 28 ≡ case_length p
unfolding reach span fields size_of case_length lengths description old_note_lengths new_note_lengths total
ends p e = ⊎_elim (λ q. rw q refl) (λ q. rw q refl) e
