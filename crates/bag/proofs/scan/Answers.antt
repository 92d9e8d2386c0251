-- The code has three returns, and each has its law of `Outcomes`: the layout is broken, the seal stops the bag, or the seal passes and `judge_cases` gives the rest.
use mathlib.Core.Path.{sym, ◌∙◌}
use Rattle.bag.proofs.Outcomes.{has_layout, broken, stopped, passed}
use Rattle.bag.proofs.scan.Goals as goal

pub returns-in-Err : goal.returns-in-Err
returns-in-Err c =
    let a = c.args in
    let g = broken a.calibration a.bag.now a.table.now a.roll.now a.ledger _ (sym c.seal_in.ensures ∙ c.in-Err.is) in
    record {
      value = c.unjudged.ensures ∙ rw (c.from.ensures, c.not_given.ensures) g.result;
      table_after = g.table;
    }

pub returns-in-Err-judge : goal.returns-in-Err-judge
returns-in-Err-judge c =
    let a = c.args in
    let g = stopped a.calibration a.bag.now a.table.now a.roll.now a.ledger c.in-Ok.reading (sym c.seal_in.ensures ∙ c.in-Ok.is) _ (sym c.judge.ensures ∙ c.in-Err-judge.is) in
    record {
      value = c.unjudged-in-Err-judge.ensures ∙ rw (c.accepted.ensures, c.from-in-Err-judge.ensures) g.result;
      table_after = g.table;
    }

pub judge_cases-requires : goal.judge_cases-requires
judge_cases-requires c = has_layout c.args.bag.now c.in-Ok.reading (sym c.seal_in.ensures ∙ c.in-Ok.is)

pub returns : goal.returns
returns c =
    let a = c.args in
    let g = passed a.calibration a.bag.now a.table.now a.roll.now a.ledger c.in-Ok.reading (sym c.seal_in.ensures ∙ c.in-Ok.is) _ (sym c.judge.ensures ∙ c.in_default.is) in
    record {
      value = c.judge_cases.ensures.value ∙ g.result;
      table_after = c.judge_cases.ensures.table_after ∙ g.table;
    }
