use mathlib.Core.Bool.{not}
use mathlib.Core.Path.{sym, ◌∙◌, ap}
use borrow.Author.Tests.{not-true, not-false}
use Rattle.ledgerbytes.specs.LedgerBytes.{bare}
use Rattle.judge.proofs.Outcomes.{length_decides, front_decides, witness_decides, pool_decides}
use Rattle.judge.proofs.answered.Goals as goal

pub returns-then-not-has_length : goal.returns-then-not-has_length
returns-then-not-has_length c =
    let a = c.args in
    length_decides a.case.now a.table.now a.roll.now (bare a.counts) (sym c.has_length.ensures ∙ not-true _ (ap not c.if-not-has_length.true))

pub ask-requires : goal.ask-requires
ask-requires c = sym c.has_length.ensures ∙ not-false _ (ap not c.if-not-has_length.false)

pub returns-in_err-ask : goal.returns-in_err-ask
returns-in_err-ask c =
    let a = c.args in
    front_decides a.case.now a.table.now a.roll.now (bare a.counts) _ _ c.from_residual.ensures c.in_err-ask.ensures

pub returns-in_err-witness : goal.returns-in_err-witness
returns-in_err-witness c =
    let a = c.args in
    witness_decides a.case.now a.table.now a.roll.now (bare a.counts) _ _ c.from_residual-in_err-witness.ensures c.in_ok-ask.ensures c.in_err-witness.ensures

pub returns : goal.returns
returns c =
    let a = c.args in
    pool_decides a.case.now a.table.now a.roll.now (bare a.counts) _ c.in_ok-ask.ensures c.in_ok-witness.ensures c.stays_within.ensures
