use Prim.Native.Nat.{◌+◌, ◌<◌, ◌≤◌}
use lib.ListN.{length}
use native.Mathlib.Omega.{arith}
use borrow.Author.Tests.{lt-ltb, le-ltb}
use Rattle.ledger.specs.Ledgers.{most_nullifiers, room_in, no3}
use Rattle.refusals.proofs.RuleLaws.{one_holds, one_fails}
use Rattle.judge.proofs.asking.has_room.Goals as goal

pub returns-then-room-lt2 : goal.returns-then-room-lt2
unfolding no3
returns-then-room-lt2 c =
    let a = c.args in
    let h : room_in most_nullifiers (length a.table.now) < a.counts.nullifiers + 2 = omega arith in
    one_holds _ 3 0 (lt-ltb _ _ h)

pub returns-then-room-counts : goal.returns-then-room-counts
unfolding no3
returns-then-room-counts c =
    let a = c.args in
    let h : room_in most_nullifiers (length a.table.now) < a.counts.nullifiers + 2 = omega arith in
    one_holds _ 3 0 (lt-ltb _ _ h)

pub returns : goal.returns
unfolding no3
returns c =
    let a = c.args in
    let h : a.counts.nullifiers + 2 ≤ room_in most_nullifiers (length a.table.now) = omega arith in
    one_fails _ 3 0 (le-ltb _ _ h)
