use mathlib.Core.Path.{sym, ◌∙◌}
use Rattle.statement.specs.CaseRefusals.{unbalanced_of, no11}
use Rattle.refusals.proofs.RuleLaws.{one_holds, one_fails}
use Rattle.statement.proofs.balance.Goals as goal

pub returns-then-unbalanced : goal.returns-then-unbalanced
unfolding no11
returns-then-unbalanced c = one_holds (unbalanced_of c.args.case.now) 11 0 (sym c.unbalanced.ensures ∙ c.if-unbalanced.true)

pub returns-else-unbalanced : goal.returns-else-unbalanced
unfolding no11
returns-else-unbalanced c = one_fails (unbalanced_of c.args.case.now) 11 0 (sym c.unbalanced.ensures ∙ c.if-unbalanced.false)
