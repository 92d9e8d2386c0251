-- Document 01's refusals in sentences, in its order: of a case, of closing a block and of opening a ledger. Each says as a proposition when its number and
-- place are given; that the first that holds is the answer is demand 1. c is the case's bytes, t the nullifier table's, r the anchor roll's, l the ledger's
-- counts, record and pool. i is 1 or 2.
-- Assumes nothing.
use Rattle.std.specs.Prelude.{ℕ, ◌+◌, ◌-◌, ◌%◌, ◌^◌, ◌<◌, ◌≤◌, ◌≡◌, ◌⊎◌, length}
use mathlib.Core.List.{List, [], ◌∷◌, Memᴰ}
use Rattle.units.specs.Limits.{max_money, tree_leaves}
use Rattle.refusals.specs.declared.Answer.{Answer}
use Rattle.refusals.specs.Rules.{answer}
use Rattle.refusals.specs.Sentences.{Sentence, refuse, OneOf}
use Rattle.sprout.specs.Hashes.{address_from, nullifier_from, mac_from, rho_from}
use Rattle.tree.specs.Record.{path_end}
use Rattle.casefile.specs.Fields.{vpub_old_of, vpub_new_of, anchor_of, nullifier_of, commitment_of, tag_of, old_key_of, old_address_of, old_value_of, old_rho_of, old_position_of, old_path_of, new_rho_of, phi_of}
use Rattle.ledger.specs.declared.Ledger.{Ledger}
use Rattle.std.specs.declared.cmp.Ordering.TheVariants.{Less}
use Rattle.ledger.specs.Rows.{byte_order, row_at}
use Rattle.ledger.specs.Ledgers.{most_nullifiers, most_anchors, room_in, spent_rows, anchor_rows}
use Rattle.demands.specs.Validity.{LeavesFree, IsWhole, old_note, new_note, value_in, value_out, h_sig}

-- DAMAGE. Rows strictly rise: each is below the next
unfoldable pub Rises : List (List ℕ) → Type 0
Rises [] = Unit {0}
Rises (x ∷ []) = Unit {0}
Rises (x ∷ y ∷ rows) = (byte_order x y ≡ Less) × Rises (y ∷ rows)

unfoldable pub Damaged : List ℕ → List ℕ → Ledger → Type 0
Damaged t r l =
    OneOf
    ((l.nullifiers % 2 ≡ 0 → ⊥)
    ∷ (room_in most_nullifiers (length t) < l.nullifiers)
    ∷ (Rises (spent_rows t l) → ⊥)
    ∷ (l.tree.leaves ≡ l.nullifiers → ⊥)
    ∷ (l.anchors ≡ 0)
    ∷ (room_in most_anchors (length r) < l.anchors)
    ∷ (max_money < l.pool.0)
    ∷ [])

-- A CASE. Key or position i is out of range; old note i has value and its path does not lead to the anchor
abbrev pub OutOfRange : List ℕ → ℕ → Type 0
OutOfRange c i = (LeavesFree (old_key_of i c) → ⊥) ⊎ (tree_leaves ≤ old_position_of i c)

abbrev pub Strays : List ℕ → ℕ → Type 0
Strays c i = (old_value_of i c ≡ 0 → ⊥) × (path_end (old_note i c) (old_position_of i c) (old_path_of i c) ≡ anchor_of c → ⊥)

-- with it the pool would be below zero, or above all money
abbrev pub OutOfBounds : List ℕ → Ledger → Type 0
OutOfBounds c l = (l.pool.0 + vpub_old_of c < vpub_new_of c) ⊎ (max_money < l.pool.0 + vpub_old_of c - vpub_new_of c)

unfoldable pub case_sentences : List ℕ → List ℕ → List ℕ → Ledger → List Sentence
case_sentences c t r l =
    refuse 1 0 (IsWhole c → ⊥)
    ∷ refuse 2 0 (Damaged t r l)
    ∷ refuse 3 0 (room_in most_nullifiers (length t) < l.nullifiers + 2)
    ∷ refuse 4 0 ((vpub_old_of c ≡ 0 → ⊥) × (vpub_new_of c ≡ 0 → ⊥))
    ∷ refuse 5 1 (max_money < vpub_old_of c)
    ∷ refuse 5 2 (max_money < vpub_new_of c)
    ∷ refuse 6 0 (Memᴰ (anchor_of c) (anchor_rows r l) → ⊥)
    ∷ refuse 7 0 (nullifier_of 1 c ≡ nullifier_of 2 c)
    ∷ refuse 8 1 (Memᴰ (nullifier_of 1 c) (spent_rows t l))
    ∷ refuse 8 2 (Memᴰ (nullifier_of 2 c) (spent_rows t l))
    ∷ refuse 9 1 (OutOfRange c 1)
    ∷ refuse 9 2 (OutOfRange c 2)
    ∷ refuse 9 3 (LeavesFree (phi_of c) → ⊥)
    ∷ refuse 10 1 (Strays c 1)
    ∷ refuse 10 2 (Strays c 2)
    ∷ refuse 11 0 ((value_in c ≡ value_out c → ⊥) ⊎ (2 ^ 64 - 1 < value_in c))
    ∷ refuse 12 1 (nullifier_of 1 c ≡ nullifier_from (old_key_of 1 c) (old_rho_of 1 c) → ⊥)
    ∷ refuse 12 2 (nullifier_of 2 c ≡ nullifier_from (old_key_of 2 c) (old_rho_of 2 c) → ⊥)
    ∷ refuse 13 1 (old_address_of 1 c ≡ address_from (old_key_of 1 c) → ⊥)
    ∷ refuse 13 2 (old_address_of 2 c ≡ address_from (old_key_of 2 c) → ⊥)
    ∷ refuse 14 1 (tag_of 1 c ≡ mac_from 1 (old_key_of 1 c) (h_sig c) → ⊥)
    ∷ refuse 14 2 (tag_of 2 c ≡ mac_from 2 (old_key_of 2 c) (h_sig c) → ⊥)
    ∷ refuse 15 1 (new_rho_of 1 c ≡ rho_from 1 (phi_of c) (h_sig c) → ⊥)
    ∷ refuse 15 2 (new_rho_of 2 c ≡ rho_from 2 (phi_of c) (h_sig c) → ⊥)
    ∷ refuse 16 1 (commitment_of 1 c ≡ new_note 1 c → ⊥)
    ∷ refuse 16 2 (commitment_of 2 c ≡ new_note 2 c → ⊥)
    ∷ refuse 17 0 (OutOfBounds c l)
    ∷ []

-- WHERE A NULLIFIER STANDS that was spent before: row k of the table is in use and is x, and no other row in use is
pub record StandsIn (x t : List ℕ) (l : Ledger) (k : ℕ) : Type 0 where
  pub used : k < l.nullifiers
  pub there : row_at t k ≡ x
  pub alone : (j : ℕ) → j < l.nullifiers → row_at t j ≡ x → j ≡ k

-- every number with its places, in the order in which they are asked
unfoldable pub all_places : List Answer
all_places =
    answer 1 0
    ∷ answer 2 0
    ∷ answer 3 0
    ∷ answer 4 0
    ∷ answer 5 1 ∷ answer 5 2
    ∷ answer 6 0
    ∷ answer 7 0
    ∷ answer 8 1 ∷ answer 8 2
    ∷ answer 9 1 ∷ answer 9 2 ∷ answer 9 3
    ∷ answer 10 1 ∷ answer 10 2
    ∷ answer 11 0
    ∷ answer 12 1 ∷ answer 12 2
    ∷ answer 13 1 ∷ answer 13 2
    ∷ answer 14 1 ∷ answer 14 2
    ∷ answer 15 1 ∷ answer 15 2
    ∷ answer 16 1 ∷ answer 16 2
    ∷ answer 17 0
    ∷ []

-- CLOSING A BLOCK: damage, then a roll with no free row
unfoldable pub close_sentences : List ℕ → List ℕ → Ledger → List Sentence
close_sentences t r l = refuse 2 0 (Damaged t r l) ∷ refuse 3 0 (room_in most_anchors (length r) ≤ l.anchors) ∷ []

-- OPENING: the roll has no row
unfoldable pub open_sentences : List ℕ → List Sentence
open_sentences r = refuse 1 0 (length r < 32) ∷ []
