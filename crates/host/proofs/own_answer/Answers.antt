use mathlib.Core.Path.{sym}
use Rattle.host.proofs.own_answer.Goals as goal

pub returns-then-is_accepted : goal.returns-then-is_accepted
returns-then-is_accepted c = rw (sym c.is_accepted.ensures, c.if-is_accepted.true)

pub returns-else-is_accepted : goal.returns-else-is_accepted
returns-else-is_accepted c = rw (sym c.is_accepted.ensures, c.if-is_accepted.false)
