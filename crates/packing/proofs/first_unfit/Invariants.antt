-- The first unfit word of all is that of those from word i + 1 on.
use Rattle.std.proofs.Common.{◌≡◌, ◌+◌, ◌-◌, ◌≤◌}
use Rattle.packing.specs.Packing.{first_unfit}
use Rattle.packing.proofs.first_unfit.Given as goal

abbrev pub invariant-loop-i : goal.invariant-loop-i
invariant-loop-i l = (l.i ≤ l.n) × ((l.n ≤ 11) × ((l.kind ≤ 2) × (first_unfit l.n l.kind 1 l.line ≡ first_unfit (l.n - l.i) l.kind (l.i + 1) l.line)))

abbrev pub decreases-loop-i : goal.decreases-loop-i
decreases-loop-i l = l.n - l.i
