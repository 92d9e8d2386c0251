use native.Mathlib.Omega.{arith}
use Rattle.books.proofs.raise.Goals as goal

pub overflow_add-result-then-pass : goal.overflow_add-result-then-pass
overflow_add-result-then-pass c = let room = c.requires.1 in omega (arith, rw c.if-pass.true at room)

pub returns-then-pass : goal.returns-then-pass
returns-then-pass c = rw c.if-pass.true

pub overflow_add-result-3 : goal.overflow_add-result-3
overflow_add-result-3 c = let room = c.requires.1 in omega (arith, rw c.if-pass.false at room)

pub returns : goal.returns
returns c = rw c.if-pass.false
