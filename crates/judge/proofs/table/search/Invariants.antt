-- The row looked for is above the one just before low and below the one at high, and the table rises: so it can stand only between, and once nothing is between, it goes to low.
-- The measure is not the rows between but the binary digits of their number. Each turn takes off one at least, which bounds the comparisons.
use mathlib.Core.Path.{◌≡◌}
use mathlib.Core.List.{[]}
use Prim.Native.Nat.{ℕ, suc, ◌-◌, ◌<◌, ◌≤◌}
use lib.Ieee.{size}
use lib.ListN.{length, get_or}
use Rattle.std.specs.declared.cmp.Ordering.TheVariants.{Less, Greater}
use Rattle.ledger.specs.Rows.{byte_order}
use Rattle.judge.proofs.table.search.Given as goal

abbrev pub invariant-loop-low : goal.invariant-loop-low
invariant-loop-low l = record {
  in_order : l.low ≤ l.high;
  in_table : l.high ≤ length l.rows;
  above : (j : ℕ) → suc j ≡ l.low → byte_order l.row (get_or l.rows j []) ≡ Greater;
  below : l.high < length l.rows → byte_order l.row (get_or l.rows l.high []) ≡ Less;
}

abbrev pub decreases-loop-low : goal.decreases-loop-low
decreases-loop-low l = size (l.high - l.low)
