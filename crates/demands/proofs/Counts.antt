-- THE COUNTS of a ledger that was opened, after any run of calls, are the history's own.
-- Assumes nothing.
use Prim.Native.Nat.{ℕ, ◌+◌, ◌*◌}
use mathlib.Core.Path.{◌≡◌, ◌∙◌}
use mathlib.Core.List.{List, [], ◌∷◌}
use native.Mathlib.Omega.{arith}
use lib.ListN.{length, length-append}
use Rattle.refusals.specs.Rules.{first}
use Rattle.nodes.specs.CommitmentTree.{tree_root}
use Rattle.ledger.specs.Ledgers.{open_refusals}
use Rattle.demands.specs.Histories.{Call, held_at_opening, held_after_all, commitments_of, Past, fresh_past, with_case, with_block, Leads, no_call, case_taken, case_not_taken, block_closed, block_not_closed, cases_taken, blocks_closed, Shows, CountsAfter}
use Rattle.demands.proofs.History.{history}

module _ (tableLength rollLength : ℕ) where
  -- two leaves for each case taken
  leaves_raised : {p q : Past} {calls : List Call} (h : Leads tableLength rollLength p calls q)
      → length q.leaves ≡ length p.leaves + 2 * cases_taken tableLength rollLength h
  unfolding cases_taken with_case with_block
  leaves_raised no_call = omega arith
  leaves_raised {p} (case_taken {c} v h) = omega (arith, leaves_raised h, length-append p.leaves (commitments_of c))
  leaves_raised (case_not_taken why h) = leaves_raised h
  leaves_raised (block_closed room h) = leaves_raised h
  leaves_raised (block_not_closed why h) = leaves_raised h

  -- a root for each block closed
  roots_raised : {p q : Past} {calls : List Call} (h : Leads tableLength rollLength p calls q)
      → length q.roots ≡ length p.roots + blocks_closed tableLength rollLength h
  unfolding blocks_closed with_case with_block
  roots_raised no_call = omega arith
  roots_raised (case_taken v h) = roots_raised h
  roots_raised (case_not_taken why h) = roots_raised h
  roots_raised {p} (block_closed room h) = omega (arith, roots_raised h, length-append p.roots (tree_root p.leaves ∷ []))
  roots_raised (block_not_closed why h) = roots_raised h

-- THE THEOREM
pub counts : (calls : List Call) (t r : List ℕ) → (first (open_refusals r)).number ≡ 0 → (q : Past) (h : Leads (length t) (length r) fresh_past calls q)
    → CountsAfter (held_after_all calls (held_at_opening t r)) (cases_taken (length t) (length r) h) (blocks_closed (length t) (length r) h)
unfolding fresh_past
counts calls t r o q h =
    let k = history calls t r o in
    let s : Shows (held_after_all calls (held_at_opening t r)) q = rw (k.only q h) k.shows in
    let leaves = leaves_raised (length t) (length r) h in
    let roots = roots_raised (length t) (length r) h in
    record { nullifiers = s.spent_count ∙ omega arith; leaves = s.leaf_count ∙ omega arith; anchors = s.anchor_count ∙ omega arith }
