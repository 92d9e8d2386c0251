-- After j turns the array has the block's 16 words, 4 j more and zeros behind them; a turn's four steps are one law (`grown`), used four times, and after 12 turns all 48 are there.
use Prim.Native.Nat.{◌-◌, ◌*◌, ◌≤◌}
use Rattle.sha256.proofs.Growth.{Grown}
use Rattle.sha256.proofs.schedule.Given as goal

abbrev pub invariant-loop-j : goal.invariant-loop-j
invariant-loop-j l = (l.j ≤ 12) × Grown l.b (4 * l.j) l.w

abbrev pub decreases-loop-j : goal.decreases-loop-j
decreases-loop-j l = 12 - l.j
