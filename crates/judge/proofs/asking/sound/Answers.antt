use mathlib.Core.Path.{sym, ◌∙◌}
use Rattle.ledger.specs.Ledgers.{no2}
use Rattle.refusals.proofs.RuleLaws.{one_holds, one_fails}
use Rattle.judge.proofs.asking.sound.Goals as goal

pub returns-then-is_damaged : goal.returns-then-is_damaged
unfolding no2
returns-then-is_damaged c = one_holds _ 2 0 (sym c.is_damaged.ensures ∙ c.if-is_damaged.true)

pub returns-else-is_damaged : goal.returns-else-is_damaged
unfolding no2
returns-else-is_damaged c = one_fails _ 2 0 (sym c.is_damaged.ensures ∙ c.if-is_damaged.false)
