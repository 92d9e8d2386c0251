use mathlib.Core.Path.{refl, ◌∙◌}
use mathlib.Core.List.{[], ◌∷◌}
use Rattle.refusals.specs.Rules.{rules_in, numbered}
use Rattle.refusals.proofs.RuleLaws.{refused_by, passed_by, run_refused_by, run_passed_by, last_group}
use Rattle.statement.specs.CaseRefusals.{no1, no4, no5, no7, public_refusals}
use Rattle.statement.proofs.public_part.Goals as goal

pub returns-in_err-length : goal.returns-in_err-length
unfolding public_refusals
returns-in_err-length c = refused_by _ _ _ _ c.in_err-length.ensures c.from_residual.ensures

pub returns-in_err-public_values : goal.returns-in_err-public_values
unfolding public_refusals numbered no1
returns-in_err-public_values c =
    let case = c.args.case.now in
    passed_by _ _ _ refl c.in_ok-length.ensures
    (run_refused_by (no4 case ∷ no5 case ∷ []) (no7 case ∷ []) _ _ c.in_err-public_values.ensures c.from_residual-in_err-public_values.ensures)

pub returns : goal.returns
unfolding public_refusals rules_in numbered no1 no4 no5
returns c =
    let case = c.args.case.now in
    passed_by _ (no4 case ∷ no5 case ∷ no7 case ∷ []) _ refl c.in_ok-length.ensures
    (run_passed_by (no4 case ∷ no5 case ∷ []) (no7 case ∷ []) _ refl c.in_ok-public_values.ensures (c.distinct.ensures ∙ last_group (no7 case)))
