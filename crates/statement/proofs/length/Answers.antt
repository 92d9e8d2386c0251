use mathlib.Core.Path.{sym, ap, ◌∙◌}
use mathlib.Core.Bool.{not}
use Rattle.casefile.specs.Fields.{has_length}
use Rattle.statement.specs.CaseRefusals.{no1}
use Rattle.refusals.proofs.RuleLaws.{one_holds, one_fails}
use Rattle.statement.proofs.length.Goals as goal

pub returns-then-has_length : goal.returns-then-has_length
unfolding no1
returns-then-has_length c = one_fails (not (has_length c.args.case.now)) 1 0 (ap not (sym c.has_length.ensures ∙ c.if-has_length.true))

pub returns-else-has_length : goal.returns-else-has_length
unfolding no1
returns-else-has_length c = one_holds (not (has_length c.args.case.now)) 1 0 (ap not (sym c.has_length.ensures ∙ c.if-has_length.false))
