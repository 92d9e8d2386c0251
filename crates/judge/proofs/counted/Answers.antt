use mathlib.Core.Path.{sym, ◌∙◌}
use Rattle.judge.specs.Settling.{own_counted}
use Rattle.judge.proofs.counted.Goals as goal

pub returns-then-is_accepted : goal.returns-then-is_accepted
unfolding own_counted
returns-then-is_accepted c = rw (sym c.is_accepted.ensures ∙ c.if-is_accepted.true) (c.from.ensures ∙ c.distinct.ensures)

pub returns : goal.returns
unfolding own_counted
returns c = rw (sym c.is_accepted.ensures ∙ c.if-is_accepted.false)
