use Rattle.replay.specs.Tape.{plant_length}
use Rattle.std.proofs.Common.{arith}
use Rattle.replay.proofs.plant_length.Goals as goal

pub overflow_add-result : goal.overflow_add-result
overflow_add-result c = omega arith

pub overflow_add-result-then-given : goal.overflow_add-result-then-given
overflow_add-result-then-given c = omega arith

pub returns-then-given : goal.returns-then-given
unfolding plant_length
returns-then-given c = rw c.if-given.true

pub returns : goal.returns
unfolding plant_length
returns c = rw c.if-given.false
