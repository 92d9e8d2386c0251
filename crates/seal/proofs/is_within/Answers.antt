use Rattle.seal.specs.Pull.{within}
use borrow.Author.Rules.{rules}
use Rattle.seal.proofs.is_within.Goals as goal

pub returns-then-low-p : goal.returns-then-low-p
unfolding within
returns-then-low-p c = simp (c.in-Between.is, c.if-low-p.true)

pub returns-in-None : goal.returns-in-None
unfolding within
returns-in-None c = search rules

pub returns-in-AtLeast : goal.returns-in-AtLeast
unfolding within
returns-in-AtLeast c = simp c.in-AtLeast.is

pub returns-else-low-p : goal.returns-else-low-p
unfolding within
returns-else-low-p c = simp (c.in-Between.is, c.if-low-p.false)
