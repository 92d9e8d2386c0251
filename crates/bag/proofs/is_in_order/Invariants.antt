-- Before each row, the whole table is in order exactly when the rows that are left are, read from the place where the next body must begin: a wrong kind or a wrong start says no, and no row left says yes.
use Prim.Native.Nat.{◌+◌, ◌-◌, ◌*◌, ◌≤◌}
use mathlib.Core.Path.{◌≡◌}
use Rattle.bag.specs.Contents.{row_start, in_order}
use Rattle.bag.proofs.is_in_order.Given as goal

abbrev pub invariant-loop-i : goal.invariant-loop-i
invariant-loop-i l = record {
  bound : l.at ≤ 100 + l.i * 4294967296;
  left : in_order l.n 0 (row_start l.n) l.bag ≡ in_order (l.n - l.i) l.i l.at l.bag;
}

abbrev pub decreases-loop-i : goal.decreases-loop-i
decreases-loop-i l = l.n - l.i
