-- Adding the leaf to the whole record is to keep its first k rows and to add x, the node that is carried, to those from k on; the loop ends where the count is even or no level is left, and there x is put in row k.
use mathlib.Core.Path.{◌≡◌}
use Prim.Native.Nat.{◌≤◌, ◌-◌}
use mathlib.Core.List.{◌++◌}
use lib.ListN.{length, take, drop}
use Rattle.octets.specs.Rows.{rows_of}
use Rattle.nodes.specs.Trees.{push}
use Rattle.nodes.specs.CommitmentTree.{parent_of}
use Rattle.tree.proofs.carried.Given as goal

abbrev pub invariant-loop-k : goal.invariant-loop-k
invariant-loop-k l = (l.k ≤ 29) × ((length l.t ≡ 960) × ((length l.x ≡ 32)
    × (push parent_of 29 l.count (rows_of 30 l.initial.t) l.initial.x ≡ take l.k (rows_of 30 l.t) ++ push parent_of (29 - l.k) l.n (drop l.k (rows_of 30 l.t)) l.x)))

abbrev pub decreases-loop-k : goal.decreases-loop-k
decreases-loop-k l = 29 - l.k
