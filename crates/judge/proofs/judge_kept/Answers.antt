-- The answer from the counts alone is that of the whole ledger (`answered_bare`); where it refuses, nothing is written, and where it does not, the table and the bytes are those of the ledger with the case entered.
use mathlib.Core.Path.{sym, ap, ◌∙◌}
use borrow.Author.Tests.{eqb-true}
use Rattle.refusals.specs.Rules.{is_accepted}
use Rattle.refusals.proofs.RuleLaws.{never_accepted, passed_on}
use Rattle.ledgerbytes.specs.LedgerBytes.{ledger_of}
use Rattle.judge.specs.Judging.{ledger_after_case, table_after_case}
use Rattle.judge.proofs.Bare.{answered_bare}
use Rattle.judge.proofs.Outcomes.{both_left, both_entered}
use Rattle.judge.proofs.Readiness.{ready}
use Rattle.judge.proofs.judge_kept.Goals as goal

pub returns-in_err-answered : goal.returns-in_err-answered
unfolding ledger_after_case table_after_case
returns-in_err-answered c =
    let a = c.args in
    let d = c.in_err-answered.ensures ∙ answered_bare a.table.now a.roll.now (ledger_of a.kept.now) _ c.read_counts.ensures a.case.now in
    let all = both_left _ a.case.now a.table.now a.kept.now (ledger_of a.kept.now) (ap is_accepted (sym d) ∙ never_accepted _) in
    record {
      value = passed_on _ _ c.from_residual.ensures ∙ d;
      table_after = all.0;
      kept_after = all.1;
    }

pub enter_kept-requires : goal.enter_kept-requires
enter_kept-requires c =
    let a = c.args in
    let d = c.in_ok-answered.ensures ∙ answered_bare a.table.now a.roll.now (ledger_of a.kept.now) _ c.read_counts.ensures a.case.now in
    ready a.case.now a.table.now a.roll.now (ledger_of a.kept.now) (eqb-true _ 0 (ap is_accepted (sym d)))

pub returns : goal.returns
unfolding ledger_after_case table_after_case
returns c =
    let a = c.args in
    let d = c.in_ok-answered.ensures ∙ answered_bare a.table.now a.roll.now (ledger_of a.kept.now) _ c.read_counts.ensures a.case.now in
    let next = both_entered _ a.case.now a.table.now a.kept.now (ledger_of a.kept.now) (ap is_accepted (sym d)) in
    record {
      value = d;
      table_after = c.enter_kept.ensures.table_after ∙ next.0;
      kept_after = c.enter_kept.ensures.kept_after ∙ next.1;
    }
