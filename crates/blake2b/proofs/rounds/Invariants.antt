-- After i turns the working vector is the definition's after i rounds; the schedule's table is unfolded so that each of its rows is seen to be within it.
use Rattle.std.proofs.Common.{◌≡◌, ◌-◌, ◌≤◌}
use Rattle.blake2b.specs.Compression.{rounds}
use Rattle.blake2b.proofs.rounds.Given as goal

abbrev pub invariant-loop-i : goal.invariant-loop-i
invariant-loop-i l = (l.i ≤ 12) × (l.v ≡ rounds l.i l.m l.initial.v)

abbrev pub decreases-loop-i : goal.decreases-loop-i
decreases-loop-i l = 12 - l.i
