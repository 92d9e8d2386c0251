use Rattle.std.proofs.Common.{arith, ne_eqb}
use Rattle.replay.specs.Tape.{can_lay}
use Rattle.replay.proofs.can_lay.Goals as goal

pub overflow_add-result : goal.overflow_add-result
overflow_add-result c = omega arith

pub overflow_mul-result : goal.overflow_mul-result
overflow_mul-result c = omega arith

pub returns-then-body-eq48 : goal.returns-then-body-eq48
unfolding can_lay
returns-then-body-eq48 c = rw (c.if-body-eq48.true, ← c.le32-first.ensures, ← c.le32-rows.ensures)

pub returns : goal.returns
unfolding can_lay
returns c = rw (ne_eqb _ 48 c.if-body-eq48.false)
