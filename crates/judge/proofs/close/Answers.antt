-- The answer from the counts alone is that of the whole ledger (`closing_bare`); by it the ledger and the roll are left or closed.
use mathlib.Core.Path.{sym, ap, ◌∙◌}
use Rattle.refusals.specs.Rules.{is_accepted}
use Rattle.refusals.proofs.RuleLaws.{never_accepted}
use Rattle.ledger.proofs.Endings.{close_refused, close_passed}
use Rattle.judge.proofs.Bare.{closing_bare, close_free}
use Rattle.judge.proofs.close.Goals as goal

pub returns-in-Err : goal.returns-in-Err
returns-in-Err c =
    let a = c.args in
    let d = c.in-Err.ensures ∙ closing_bare a.table.now a.roll.now a.ledger _ c.from.ensures in
    let no = close_refused a.table.now a.roll.now a.ledger (ap is_accepted (sym d) ∙ never_accepted _) in
    record {
      answer_value = c.from-in-Err.ensures ∙ d;
      ledger_value = no.0;
      roll_after = no.1;
    }

pub closed-next-requires : goal.closed-next-requires
closed-next-requires c =
    let a = c.args in
    let d = c.in_default.ensures ∙ closing_bare a.table.now a.roll.now a.ledger _ c.from.ensures in
    close_free a.table.now a.roll.now a.ledger (ap is_accepted (sym d))

pub returns : goal.returns
returns c =
    let a = c.args in
    let d = c.in_default.ensures ∙ closing_bare a.table.now a.roll.now a.ledger _ c.from.ensures in
    let yes = close_passed a.table.now a.roll.now a.ledger (ap is_accepted (sym d)) in
    record {
      answer_value = c.accepted.ensures ∙ d;
      ledger_value = c.closed-next.ensures.value ∙ yes.0;
      roll_after = c.closed-next.ensures.roll_after ∙ yes.1;
    }
