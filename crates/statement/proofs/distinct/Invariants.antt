-- After k turns the first k words of the two nullifiers are equal; a word that differs lets them pass at once, and four equal ones are all there is.
use Prim.Native.Nat.{◌-◌, ◌*◌, ◌≤◌}
use mathlib.Core.Path.{◌≡◌}
use lib.ListN.{length}
use Rattle.octets.specs.Parts.{field}
use Rattle.statement.proofs.distinct.Given as goal

abbrev pub invariant-loop-k : goal.invariant-loop-k
invariant-loop-k l = (l.k ≤ 4) × ((length l.one ≡ 32) × ((length l.two ≡ 32) × (field 0 (8 * l.k) l.one ≡ field 0 (8 * l.k) l.two)))

abbrev pub decreases-loop-k : goal.decreases-loop-k
decreases-loop-k l = 4 - l.k
