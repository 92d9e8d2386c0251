-- The record's root is what joining its nodes from level k on gives, with the node made so far and the empty root of level k; at level 29 it is that node, or the top row where the tree is full.
use mathlib.Core.Path.{◌≡◌}
use Prim.Native.Nat.{◌≤◌, ◌-◌}
use lib.ListN.{length, drop}
use Rattle.octets.specs.Rows.{rows_of}
use Rattle.nodes.specs.Trees.{fold_of}
use Rattle.nodes.specs.CommitmentTree.{parent_of, empty_leaf, empty_root}
use Rattle.tree.proofs.Tree.root.Given as goal

abbrev pub invariant-loop-k : goal.invariant-loop-k
invariant-loop-k l = (l.k ≤ 29) × ((length l.t ≡ 960)
    × (fold_of parent_of 29 l.initial.n (rows_of 30 l.t) empty_leaf empty_leaf ≡ fold_of parent_of (29 - l.k) l.n (drop l.k (rows_of 30 l.t)) l.x (empty_root l.k)))

abbrev pub decreases-loop-k : goal.decreases-loop-k
decreases-loop-k l = 29 - l.k
