-- The table rises exactly when the rows that are left do. First words hand that on up to a row, and that row and the one after it are compared in full: a pair that does not rise says no, and with no pair left the answer is yes.
use mathlib.Core.Path.{◌≡◌}
use lib.ListN.{length}
use Rattle.ledger.specs.Sorted.{rising}
use Rattle.ledger.specs.Rows.{byte_order}
use Rattle.judge.proofs.table.is_rising.Given as goal

abbrev pub invariant-loop-rest : goal.invariant-loop-rest
invariant-loop-rest l = rising byte_order l.rows ≡ rising byte_order l.rest

abbrev pub decreases-loop-rest : goal.decreases-loop-rest
decreases-loop-rest l = length l.rest
