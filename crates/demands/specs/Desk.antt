-- REQUEST No. 3, the desk: its refusals in sentences, and which ledgers take what it writes. d is the draft, n the buffer's length, i is 1 or 2. What the
-- desk works out is said of the draft's inputs.
-- Assumes nothing.
use Rattle.std.specs.Prelude.{ℕ, ◌+◌, ◌-◌, ◌^◌, ◌<◌, ◌≤◌, ◌≡◌, false, ◌⊎◌, length}
use mathlib.Core.List.{List, [], ◌∷◌, Memᴰ}
use Rattle.units.specs.Limits.{max_money}
use Rattle.units.specs.Pairs.{ForBoth}
use Rattle.refusals.specs.Sentences.{Sentence, refuse}
use Rattle.sprout.specs.Hashes.{address_from, nullifier_from, commitment_from}
use Rattle.tree.specs.Record.{path_end}
use Rattle.casefile.specs.Fields.{vpub_old_of, vpub_new_of, anchor_of, old_key_of, old_value_of, old_rho_of, old_trapdoor_of, old_position_of, old_path_of, phi_of}
use Rattle.desk.specs.Inputs.{SameInputs}
use Rattle.ledger.specs.declared.Ledger.{Ledger}
use Rattle.ledger.specs.Ledgers.{most_nullifiers, room_in, spent_rows, anchor_rows, damaged}
use Rattle.judge.specs.Judging.{answer_of}
use Rattle.demands.specs.Validity.{LeavesFree, IsWhole, value_in, value_out}
use Rattle.demands.specs.Refusals.{OutOfRange, OutOfBounds}

-- old note i's nullifier, for which its key's top four bits are dropped, and its commitment, with the address of its key
abbrev pub due_nullifier : ℕ → List ℕ → List ℕ
due_nullifier i d = nullifier_from (old_key_of i d) (old_rho_of i d)

abbrev pub due_note : ℕ → List ℕ → List ℕ
due_note i d = commitment_from (address_from (old_key_of i d)) (old_value_of i d) (old_rho_of i d) (old_trapdoor_of i d)

-- old note i has value, and its path does not lead from that commitment to the anchor
abbrev pub LeadsElsewhere : List ℕ → ℕ → Type 0
LeadsElsewhere d i = (old_value_of i d ≡ 0 → ⊥) × (path_end (due_note i d) (old_position_of i d) (old_path_of i d) ≡ anchor_of d → ⊥)

-- THE REFUSALS
unfoldable pub desk_sentences : List ℕ → ℕ → List Sentence
desk_sentences d n =
    refuse 1 0 (IsWhole d × (n ≡ length d) → ⊥)
    ∷ refuse 4 0 ((vpub_old_of d ≡ 0 → ⊥) × (vpub_new_of d ≡ 0 → ⊥))
    ∷ refuse 5 1 (max_money < vpub_old_of d)
    ∷ refuse 5 2 (max_money < vpub_new_of d)
    ∷ refuse 7 0 (due_nullifier 1 d ≡ due_nullifier 2 d)
    ∷ refuse 9 1 (OutOfRange d 1)
    ∷ refuse 9 2 (OutOfRange d 2)
    ∷ refuse 9 3 (LeavesFree (phi_of d) → ⊥)
    ∷ refuse 10 1 (LeadsElsewhere d 1)
    ∷ refuse 10 2 (LeadsElsewhere d 2)
    ∷ refuse 11 0 ((value_in d ≡ value_out d → ⊥) ⊎ (2 ^ 64 - 1 < value_in d))
    ∷ []

-- A LEDGER THAT HAS NOTHING AGAINST IT: undamaged, with room, with the draft's anchor and neither nullifier, and with a pool that stays in its bounds
pub record Admits (d t r : List ℕ) (l : Ledger) : Type 0 where
  pub undamaged : damaged t r l ≡ false
  pub room : l.nullifiers + 2 ≤ room_in most_nullifiers (length t)
  pub anchor : Memᴰ (anchor_of d) (anchor_rows r l)
  pub unspent : ForBoth (λ i. Memᴰ (due_nullifier i d) (spent_rows t l) → ⊥)
  pub pool : OutOfBounds d l → ⊥

-- A FILE WITH THE DRAFT'S INPUTS that some ledger accepts
pub record Acceptable (d : List ℕ) : Type 0 where
  pub file : List ℕ
  pub table : List ℕ
  pub roll : List ℕ
  pub ledger : Ledger
  pub same : SameInputs file d
  pub accepted : (answer_of file table roll ledger).number ≡ 0
