-- After i turns the buffer begins with the four bytes of each of the first i answers; after seven turns nothing is left behind them.
use Prim.Native.Nat.{◌-◌, ◌*◌}
use mathlib.Core.Path.{◌≡◌}
use lib.ListN.{length, take}
use Rattle.octets.proofs.Joining.{Laid}
use Rattle.host.specs.Bags.{answers_of}
use Rattle.host.proofs.answer_bytes.Given as goal

abbrev pub invariant-loop-i : goal.invariant-loop-i
invariant-loop-i l = (length l.fn.answers ≡ 7) × Laid (4 * l.i) (28 - 4 * l.i) (answers_of (take l.i l.fn.answers)) l.bytes
