-- Opening and closing, by whether they are refused; and that an opened ledger is sound, and one that was sound still is when a block was closed.
-- Assumes nothing.
use Prim.Native.Nat.{ℕ, ◌+◌, ◌*◌, ◌≤◌}
use mathlib.Core.Path.{◌≡◌, refl, sym}
use mathlib.Core.Bool.{true, false}
use mathlib.Core.List.{List, [], ◌∷◌, ◌++◌}
use native.Mathlib.Omega.{arith}
use borrow.Author.Tests.{eqb-true, eqb-false, ne_eqb, leb-false}
use lib.Dec.{eqb}
use lib.ListN.{length}
use Rattle.octets.specs.Parts.{pasted}
use Rattle.octets.specs.Rows.{rows_of}
use Rattle.octets.proofs.PartLaws.{pasted_length}
use Rattle.octets.proofs.RowLaws.{rows_pasted}
use Rattle.refusals.specs.Rules.{None, first, rules_in, numbered, accepted, is_accepted}
use Rattle.refusals.proofs.RuleLaws.{first_none, one_fails, one_passed}
use Rattle.nodes.specs.CommitmentTree.{tree_root}
use Rattle.tree.specs.Record.{fresh_of, record_root}
use Rattle.tree.proofs.Grown.{root_long}
use Rattle.ledger.specs.declared.Ledger.{Ledger}
use Rattle.ledger.specs.Sorted.{rising}
use Rattle.ledger.specs.Ledgers.{most_anchors, room_in, spent_rows, anchor_rows, no2, close_refusals, closed_of, roll_after_close, open_refusals, empty_ledger, opened_of, roll_after_open}
use Rattle.ledger.proofs.Soundness.{Sound, within}

module _ (t r : List ℕ) (l : Ledger) where
  pub close_refused : is_accepted (first (close_refusals t r l)) ≡ false → (l ≡ closed_of t r l) × (r ≡ roll_after_close t r l)
  unfolding closed_of roll_after_close
  close_refused h = (rw h, rw h)

  pub close_passed : is_accepted (first (close_refusals t r l)) ≡ true
      → (◌≡◌ {A = Ledger} (record { nullifiers = l.nullifiers; anchors = l.anchors + 1; tree = l.tree; pool = l.pool }) (closed_of t r l))
      × (pasted (l.anchors * 32) (record_root l.tree) r ≡ roll_after_close t r l)
  unfolding closed_of roll_after_close
  close_passed h = (rw h, rw h)

module _ (r : List ℕ) where
  pub open_refused : is_accepted (first (open_refusals r)) ≡ false → (empty_ledger 0 ≡ opened_of r) × (r ≡ roll_after_open r)
  unfolding opened_of roll_after_open
  open_refused h = (rw h, rw h)

  pub open_passed : is_accepted (first (open_refusals r)) ≡ true → (empty_ledger 1 ≡ opened_of r) × (pasted 0 (tree_root []) r ≡ roll_after_open r)
  unfolding opened_of roll_after_open
  open_passed h = (rw h, rw h)

-- a block that was closed
module _ (t r : List ℕ) (l : Ledger) (h : is_accepted (first (close_refusals t r l)) ≡ true) where
  close_free : l.anchors + 1 ≤ room_in most_anchors (length r)
  unfolding None close_refusals rules_in numbered no2
  close_free =
      let n = first_none (close_refusals t r l) refl (eqb-true (first (close_refusals t r l)).number 0 h) in
      let free = leb-false (room_in most_anchors (length r)) l.anchors n.1.0 in
      omega arith

  pub close_sound : Sound t r l → Sound t (roll_after_close t r l) (closed_of t r l)
  unfolding spent_rows
  close_sound s =
      let e = close_passed t r l h in
      rw (← e.0, ← e.1)
      (record {
        even = s.even;
        fits = s.fits;
        rises = s.rises;
        leaves = s.leaves;
        anchored = λ z. omega arith;
        roll = rw (pasted_length (l.anchors * 32) (record_root l.tree) r) close_free;
        pool = s.pool;
      })

  pub close_rows : length (record_root l.tree) ≡ 32 → anchor_rows (roll_after_close t r l) (closed_of t r l) ≡ anchor_rows r l ++ (record_root l.tree ∷ [])
  unfolding anchor_rows
  close_rows e =
      let p = close_passed t r l h in
      rw (← p.0, ← p.1) (rows_pasted l.anchors (record_root l.tree) r e (within (l.anchors + 1) most_anchors (length r) close_free))

-- a roll with a row is opened
pub open_roomy : (r : List ℕ) → 32 ≤ length r → first (open_refusals r) ≡ accepted
unfolding open_refusals room_in
open_roomy r h = sym (one_fails (eqb (room_in most_anchors (length r)) 0) 1 0 (ne_eqb (room_in most_anchors (length r)) 0 (λ e. omega arith)))

-- a ledger that was opened, with any table
module _ (t r : List ℕ) (h : is_accepted (first (open_refusals r)) ≡ true) where
  open_free : 1 ≤ room_in most_anchors (length r)
  unfolding open_refusals
  open_free =
      let z = eqb-false (room_in most_anchors (length r)) 0 (one_passed (eqb (room_in most_anchors (length r)) 0) 1 0 (λ e. omega arith) h) in
      omega arith

  pub open_sound : Sound t (roll_after_open r) (opened_of r)
  unfolding spent_rows empty_ledger fresh_of rows_of rising
  open_sound =
      let e = open_passed r h in
      rw (← e.0, ← e.1)
      (record {
        even = refl;
        fits = omega arith;
        rises = refl;
        leaves = refl;
        anchored = λ z. omega arith;
        roll = rw (pasted_length 0 (tree_root []) r) open_free;
        pool = omega arith;
      })

  pub open_rows : anchor_rows (roll_after_open r) (opened_of r) ≡ tree_root [] ∷ []
  unfolding anchor_rows empty_ledger rows_of
  open_rows =
      let e = open_passed r h in
      rw (← e.0, ← e.1) (rows_pasted 0 (tree_root []) r (root_long []) (within 1 most_anchors (length r) open_free))
