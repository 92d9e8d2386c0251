-- The end of the whole path from the leaf is that of the path from level k on, from the node reached; a turn is one step up, and after 29 turns no sibling is left.
use mathlib.Core.Path.{◌≡◌}
use Prim.Native.Nat.{◌≤◌, ◌-◌}
use lib.ListN.{drop}
use Rattle.nodes.specs.Trees.{climb_of}
use Rattle.nodes.specs.CommitmentTree.{parent_of}
use Rattle.tree.proofs.Turns.{siblings}
use Rattle.tree.proofs.climb.Given as goal

abbrev pub invariant-loop-k : goal.invariant-loop-k
invariant-loop-k l = (l.k ≤ 29) × (climb_of parent_of l.initial.x l.initial.p.0 (siblings l.path) ≡ climb_of parent_of l.x l.p.0 (drop l.k (siblings l.path)))

abbrev pub decreases-loop-k : goal.decreases-loop-k
decreases-loop-k l = 29 - l.k
