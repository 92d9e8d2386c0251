-- Which turn an entry has, by its kind's code and its body's length.
-- Assumes nothing.
use Rattle.std.proofs.Common.{◌≡◌, ℕ, ◌<◌, ◌≤◌, true, false, List, length, take, ne_eqb, le-leb}
use borrow.Author.Tests.{lt-leb}
use Rattle.text.specs.Words.{name_line}
use Rattle.replay.specs.declared.State.{State}
use Rattle.replay.specs.Looks.{ledger_text, rows_text, memory_text, seal_text}
use Rattle.replay.specs.Tape.{turn_of, broken_turn, open_turn, plant_turn, table_turn, roll_turn, lay_turn, case_turn, desk_turn, fresh_turn, block_turn, look_turn, bare_turn, seal_turn, name_turn, other_turn, entry_turn}

-- a name that is short enough, and one that is not
module _ (body t r : List ℕ) (s : State) where
  pub name_short : length body ≤ 100 → turn_of s t r (name_line body) ≡ name_turn body t r s
  unfolding name_turn
  name_short h = rw (le-leb (length body) 100 h)

  pub name_long : 100 < length body → broken_turn t r ≡ name_turn body t r s
  unfolding name_turn
  name_long h = rw (lt-leb (length body) 100 h)

module _ (kind : ℕ) (t r : List ℕ) (s : State) where
  pub look_ledger : kind ≡ 76 → turn_of s t r (ledger_text s.ledger) ≡ look_turn kind t r s
  unfolding look_turn
  look_ledger h = rw h

  pub look_rows : kind ≡ 82 → turn_of s t r (rows_text (take s.table t) (take s.roll r) s.ledger) ≡ look_turn kind t r s
  unfolding look_turn
  look_rows h = rw h

  pub look_memory : kind ≡ 77 → turn_of s t r (memory_text (take s.table t) (take s.roll r) s.ledger) ≡ look_turn kind t r s
  unfolding look_turn
  look_memory h = rw h

  pub look_other : (kind ≡ 76 → ⊥) → (kind ≡ 82 → ⊥) → (kind ≡ 77 → ⊥) → broken_turn t r ≡ look_turn kind t r s
  unfolding look_turn
  look_other a b d = rw (ne_eqb kind 76 a, ne_eqb kind 82 b, ne_eqb kind 77 d)

  pub bare_fresh : kind ≡ 70 → fresh_turn t r s ≡ bare_turn kind t r s
  unfolding bare_turn
  bare_fresh h = rw h

  pub bare_block : kind ≡ 66 → block_turn t r s ≡ bare_turn kind t r s
  unfolding bare_turn
  bare_block h = rw h

  pub bare_other : (kind ≡ 70 → ⊥) → (kind ≡ 66 → ⊥) → look_turn kind t r s ≡ bare_turn kind t r s
  unfolding bare_turn
  bare_other a b = rw (ne_eqb kind 70 a, ne_eqb kind 66 b)

  module _ (body : List ℕ) where
    pub entry_open : kind ≡ 79 → open_turn body t r ≡ entry_turn kind body t r s
    unfolding entry_turn
    entry_open h = rw h

    pub entry_case : kind ≡ 67 → case_turn body t r s ≡ entry_turn kind body t r s
    unfolding entry_turn
    entry_case h = rw h

    pub entry_desk : kind ≡ 68 → desk_turn body t r s ≡ entry_turn kind body t r s
    unfolding entry_turn
    entry_desk h = rw h

    pub entry_seal : kind ≡ 83 → seal_turn body t r s ≡ entry_turn kind body t r s
    unfolding entry_turn
    entry_seal h = rw h

    pub seal_whole : length body ≡ 41 → turn_of s t r (seal_text body) ≡ seal_turn body t r s
    unfolding seal_turn
    seal_whole h = rw h

    pub seal_broken : (length body ≡ 41 → ⊥) → broken_turn t r ≡ seal_turn body t r s
    unfolding seal_turn
    seal_broken h = rw (ne_eqb (length body) 41 h)

    pub entry_name : kind ≡ 78 → name_turn body t r s ≡ entry_turn kind body t r s
    unfolding entry_turn
    entry_name h = rw h

    pub entry_other : (kind ≡ 79 → ⊥) → (kind ≡ 67 → ⊥) → (kind ≡ 68 → ⊥) → (kind ≡ 83 → ⊥) → (kind ≡ 78 → ⊥) → other_turn kind body t r s ≡ entry_turn kind body t r s
    unfolding entry_turn
    entry_other o c d z n = rw (ne_eqb kind 79 o, ne_eqb kind 67 c, ne_eqb kind 68 d, ne_eqb kind 83 z, ne_eqb kind 78 n)

    pub other_bare : length body ≡ 0 → bare_turn kind t r s ≡ other_turn kind body t r s
    unfolding other_turn
    other_bare h = rw h

    pub other_lay : (length body ≡ 0 → ⊥) → lay_turn kind body t r s ≡ other_turn kind body t r s
    unfolding other_turn
    other_lay h = rw (ne_eqb (length body) 0 h)

    pub lay_given : kind ≡ 80 → plant_turn true body t r ≡ lay_turn kind body t r s
    unfolding lay_turn
    lay_given h = rw h

    pub lay_zeros : kind ≡ 75 → plant_turn false body t r ≡ lay_turn kind body t r s
    unfolding lay_turn
    lay_zeros h = rw h

    pub lay_table : kind ≡ 84 → table_turn body t r s ≡ lay_turn kind body t r s
    unfolding lay_turn
    lay_table h = rw h

    pub lay_roll : kind ≡ 65 → roll_turn body t r s ≡ lay_turn kind body t r s
    unfolding lay_turn
    lay_roll h = rw h

    pub lay_other : (kind ≡ 80 → ⊥) → (kind ≡ 75 → ⊥) → (kind ≡ 84 → ⊥) → (kind ≡ 65 → ⊥) → broken_turn t r ≡ lay_turn kind body t r s
    unfolding lay_turn
    lay_other p k t a = rw (ne_eqb kind 80 p, ne_eqb kind 75 k, ne_eqb kind 84 t, ne_eqb kind 65 a)
