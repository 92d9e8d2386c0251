-- The index falls by eight rows: the bytes from there up to the end are moved and those below are still as they were; a turn moves four rows and the four below them, and by the law `shifted_more` that is one move of all.
use mathlib.Core.Path.{◌≡◌}
use Prim.Native.Nat.{◌≤◌}
use lib.ListN.{length}
use Rattle.ledger.specs.Rows.{shifted}
use Rattle.judge.proofs.table.shift_eights.Given as goal

abbrev pub invariant-loop-at : goal.invariant-loop-at
invariant-loop-at l = record {
  not_below : l.low ≤ l.at;
  not_above : l.at ≤ l.high;
  moved : l.table ≡ shifted l.initial.table l.at l.high;
  as_long : length l.table ≡ length l.initial.table;
}

abbrev pub decreases-loop-at : goal.decreases-loop-at
decreases-loop-at l = l.at
