use Rattle.std.proofs.Common.{le-leb}
use borrow.Author.Tests.{lt-leb}
use Rattle.replay.specs.Tape.{can_lend}
use Rattle.replay.proofs.can_lend.Goals as goal
use Rattle.replay.proofs.can_lend.Goals.{else-whole-via-then-whole+else-n-table, else-whole-via-else-whole}

pub returns-then-n-table : goal.returns-then-n-table
unfolding can_lend
returns-then-n-table c = rw (c.if-whole.true, le-leb _ _ c.if-n-table.true)

pub returns : goal.returns
unfolding can_lend
returns c =
    elim c.else-whole.branch [
      | else-whole-via-then-whole+else-n-table w ↦ rw (w.if-whole.true, lt-leb _ _ w.if-n-table.false)
      | else-whole-via-else-whole w ↦ rw w.if-whole.false
    ]
