-- The six fields that are read are those that the promise names; with them the table is that with both rows, the tree that with both leaves, and the pool the one after the case.
use mathlib.Core.List.{List}
use mathlib.Core.Path.{ap, ap₂, ◌∙◌}
use Prim.Native.Nat.{ℕ, ◌+◌, ◌≤◌}
use native.Mathlib.Omega.{arith}
use lib.ListN.{length}
use Rattle.tree.specs.declared.Tree.{Tree}
use Rattle.tree.specs.Record.{grown, with_leaf_of}
use Rattle.ledger.specs.Rows.{table_with_two}
use Rattle.ledger.specs.Ledgers.{most_nullifiers, spent_rows, pool_after, entered_of}
use Rattle.ledger.proofs.Soundness.{within, at_most}
use Rattle.judge.proofs.entering.enter.Goals as goal

pub enter_two-requires : goal.enter_two-requires
unfolding spent_rows
enter_two-requires c =
    let a = c.args in
    record {
      count_in_bounds = within (a.ledger.nullifiers + 2) most_nullifiers (length a.table.now) c.requires.room;
      table_rises = c.requires.rises;
      fresh = rw (c.nullifier-one.ensures, c.nullifier-two.ensures) c.requires.fresh;
    }

pub overflow_add-result : goal.overflow_add-result
overflow_add-result c =
    let h : c.args.ledger.nullifiers + 2 ≤ most_nullifiers = at_most (c.args.ledger.nullifiers + 2) most_nullifiers (length c.args.table.now) c.requires.room in
    record { fits = omega arith }

pub returns : goal.returns
unfolding entered_of grown
returns c =
    let a = c.args in
    let l = a.ledger in
    let one = c.commitment-commitment1.ensures in
    let two = c.commitment-commitment2.ensures in
    let leaf1 = c.with_leaf.ensures ∙ ap (λ (x : List ℕ). with_leaf_of l.tree x) one in
    let leaf2 = c.with_leaf-grown.ensures ∙ ap₂ with_leaf_of leaf1 two in
    let after = c.moved-pool.ensures ∙ ap₂ (λ (x y : ℕ). pool_after l.pool.0 x y) c.vpub_old-old.ensures c.vpub_new-new.ensures in
    record {
      value = ap₂ (λ (t : Tree) (z : ℕ). record { nullifiers = l.nullifiers + 2; anchors = l.anchors; tree = t; pool = record { 0 = z } }) leaf2 after;
      table_after = c.enter_two.ensures
          ∙ ap₂ (λ (x y : List ℕ). table_with_two l.nullifiers a.table.now x y) c.nullifier-one.ensures c.nullifier-two.ensures;
    }
