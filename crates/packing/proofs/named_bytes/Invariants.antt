-- After i turns total is the sum of the first i lengths, each of which is below 10^15.
use Rattle.std.proofs.Common.{◌≡◌, ◌-◌, ◌*◌, ◌≤◌}
use Rattle.packing.specs.Packing.{sizes_from, sum}
use Rattle.packing.proofs.named_bytes.Given as goal

abbrev pub invariant-loop-i : goal.invariant-loop-i
invariant-loop-i l = (l.i ≤ l.n) × ((l.n ≤ 7) × ((l.k ≤ 5) × ((l.total ≤ 1000000000000000 * l.i) × (l.total ≡ sum (sizes_from l.i l.k l.line)))))

abbrev pub decreases-loop-i : goal.decreases-loop-i
decreases-loop-i l = l.n - l.i
