-- One return for each refusal, in the order of the numbers: where it is given the table stops there, and where not the table goes on with the rest.
use mathlib.Core.Path.{refl, ◌∙◌}
use Rattle.refusals.specs.Rules.{numbered}
use Rattle.refusals.proofs.RuleLaws.{refused_by, passed_by, last_group}
use Rattle.statement.specs.CaseRefusals.{no7, no9, no10, no11}
use Rattle.desk.specs.Drafts.{notes_refusals}
use Rattle.desk.proofs.notes.Goals as goal

pub returns-in_err-distinct : goal.returns-in_err-distinct
unfolding notes_refusals
returns-in_err-distinct c = refused_by _ _ _ _ c.in_err-distinct.ensures c.from_residual.ensures

pub returns-in_err-ranges : goal.returns-in_err-ranges
unfolding notes_refusals numbered no7
returns-in_err-ranges c = passed_by _ _ _ refl c.in_ok-distinct.ensures (refused_by _ _ _ _ c.in_err-ranges.ensures c.from_residual-in_err-ranges.ensures)

pub returns-in_err-paths : goal.returns-in_err-paths
unfolding notes_refusals numbered no7 no9
returns-in_err-paths c =
    passed_by _ _ _ refl c.in_ok-distinct.ensures (passed_by _ _ _ refl c.in_ok-ranges.ensures
    (refused_by _ _ _ _ c.in_err-paths.ensures c.from_residual-in_err-paths.ensures))

pub returns : goal.returns
unfolding notes_refusals numbered no7 no9 no10
returns c =
    passed_by _ _ _ refl c.in_ok-distinct.ensures (passed_by _ _ _ refl c.in_ok-ranges.ensures (passed_by _ _ _ refl c.in_ok-paths.ensures
    (c.balance.ensures ∙ last_group (no11 c.args.draft.now))))
