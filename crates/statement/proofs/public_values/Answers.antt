use mathlib.Core.Path.{refl, ◌∙◌}
use Rattle.refusals.specs.Rules.{numbered}
use Rattle.refusals.proofs.RuleLaws.{refused_by, passed_by, last_group}
use Rattle.statement.specs.CaseRefusals.{no4, no5}
use Rattle.statement.proofs.public_values.Goals as goal

pub returns-in_err-one_sided : goal.returns-in_err-one_sided
returns-in_err-one_sided c = refused_by _ _ _ _ c.in_err-one_sided.ensures c.from_residual.ensures

pub returns : goal.returns
unfolding numbered no4
returns c = passed_by _ _ _ refl c.in_ok-one_sided.ensures (c.public_amounts.ensures ∙ last_group (no5 c.args.case.now))
