-- The answer from the counts alone is that of the whole ledger (`answered_bare`); by it the ledger and the table are left, or the case is entered.
use mathlib.Core.Path.{sym, ap, ◌∙◌}
use borrow.Author.Tests.{eqb-true}
use Rattle.refusals.specs.Rules.{is_accepted}
use Rattle.refusals.proofs.RuleLaws.{never_accepted}
use Rattle.judge.proofs.Bare.{answered_bare}
use Rattle.judge.proofs.Outcomes.{refused_ledger, refused_table, accepted_ledger, accepted_table, judged}
use Rattle.judge.proofs.Readiness.{ready}
use Rattle.judge.proofs.judge.Goals as goal

pub returns-in-Err : goal.returns-in-Err
returns-in-Err c =
    let a = c.args in
    let d = c.in-Err.ensures ∙ answered_bare a.table.now a.roll.now a.ledger _ c.from.ensures a.case.now in
    let no = ap is_accepted (sym d) ∙ never_accepted _ in
    record {
      value = judged a.case.now a.table.now a.roll.now a.ledger _ a.ledger (c.from-in-Err.ensures ∙ d) (sym (refused_ledger a.case.now a.table.now a.roll.now a.ledger no));
      table_after = sym (refused_table a.case.now a.table.now a.roll.now a.ledger no);
    }

pub enter-after-requires : goal.enter-after-requires
enter-after-requires c =
    let a = c.args in
    let d = c.in_default.ensures ∙ answered_bare a.table.now a.roll.now a.ledger _ c.from.ensures a.case.now in
    ready a.case.now a.table.now a.roll.now a.ledger (eqb-true _ 0 (ap is_accepted (sym d)))

pub returns : goal.returns
returns c =
    let a = c.args in
    let d = c.in_default.ensures ∙ answered_bare a.table.now a.roll.now a.ledger _ c.from.ensures a.case.now in
    let accepts = ap is_accepted (sym d) in
    record {
      value = judged a.case.now a.table.now a.roll.now a.ledger _ _ (c.accepted.ensures ∙ d) (c.enter-after.ensures.value ∙ sym (accepted_ledger a.case.now a.table.now a.roll.now a.ledger accepts));
      table_after = c.enter-after.ensures.table_after ∙ sym (accepted_table a.case.now a.table.now a.roll.now a.ledger accepts);
    }
