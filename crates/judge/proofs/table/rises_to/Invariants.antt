-- All rows rise exactly if those that are left do; the word held is the first one of their first row, and eight words that each are above the one before hand it on to the eighth row after.
use lib.ListN.{length}
use Rattle.judge.proofs.HeldRow.{Held}
use Rattle.judge.proofs.table.rises_to.Given as goal

abbrev pub invariant-loop-rest : goal.invariant-loop-rest
invariant-loop-rest l = Held l.rows l.rest l.before

abbrev pub decreases-loop-rest : goal.decreases-loop-rest
decreases-loop-rest l = length l.rest
