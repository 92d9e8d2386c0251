-- The order of the two rows is the order of what is left of them after so many words: two words that differ decide it, two that are equal hand it on to the next, and after four the rows are equal.
use mathlib.Core.Path.{◌≡◌}
use Prim.Native.Nat.{◌*◌}
use lib.ListN.{length, drop}
use Rattle.ledger.specs.Rows.{byte_order}
use Rattle.judge.proofs.order.compare.Given as goal

abbrev pub invariant-loop-p : goal.invariant-loop-p
invariant-loop-p l = byte_order l.a l.b ≡ byte_order (drop (length l.yielded * 8) l.a) (drop (length l.yielded * 8) l.b)
