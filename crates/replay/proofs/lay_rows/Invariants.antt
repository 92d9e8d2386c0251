-- What all the rows leave is what those that are left make of what the rows so far have left.
use Rattle.std.proofs.Common.{◌≡◌, ◌+◌, ◌-◌, ◌*◌, ◌≤◌, length, take, drop}
use Rattle.replay.specs.Tape.{rows_laid}
use Rattle.replay.proofs.lay_rows.Given as goal

abbrev pub invariant-loop-i : goal.invariant-loop-i
invariant-loop-i l = (l.i ≤ l.rows) × (length l.bytes ≡ length l.initial.bytes) × (rows_laid l.rows (l.first * 32) l.initial.number l.step (take 24 (drop 24 l.body)) l.initial.bytes ≡ rows_laid (l.rows - l.i) ((l.first + l.i) * 32) l.number l.step (take 24 (drop 24 l.body)) l.bytes)

abbrev pub decreases-loop-i : goal.decreases-loop-i
decreases-loop-i l = l.rows - l.i
