use mathlib.Core.Path.{◌∙◌}
use native.Mathlib.Omega.{arith}
use lib.ListN.{length}
use borrow.Author.Tests.{eq-eqb, ne_eqb}
use Rattle.hostslices.specs.StepCalls.{step_call_answer, record_after_step_call, ledger_after_step_call, table_after_step_call}
use Rattle.hostslices.proofs.snaldrek_proved_step.Goals as goal

pub returns-then-ledger-ne-LEDGER_LENGTH : goal.returns-then-ledger-ne-LEDGER_LENGTH
unfolding step_call_answer record_after_step_call ledger_after_step_call table_after_step_call
returns-then-ledger-ne-LEDGER_LENGTH c =
    let h = ne_eqb (length c.args.ledger.now) 988 c.if-ledger-ne-LEDGER_LENGTH.true in
    record {
      value = c.refused.ensures ∙ rw h;
      judgement_after = rw h;
      ledger_after = rw h;
      table_after = rw h;
    }

pub returns-then-judgement-ne-JUDGEMENT_LENGTH : goal.returns-then-judgement-ne-JUDGEMENT_LENGTH
unfolding step_call_answer record_after_step_call ledger_after_step_call table_after_step_call
returns-then-judgement-ne-JUDGEMENT_LENGTH c =
    let a = c.args in
    let h = eq-eqb (length a.ledger.now) 988 (omega arith) in
    let n = ne_eqb (length a.judgement.now) 4280 c.if-judgement-ne-JUDGEMENT_LENGTH.true in
    record {
      value = c.refused-then-judgement-ne-JUDGEMENT_LENGTH.ensures ∙ rw (h, n);
      judgement_after = rw (h, n);
      ledger_after = rw (h, n);
      table_after = rw (h, n);
    }

pub returns : goal.returns
unfolding step_call_answer record_after_step_call ledger_after_step_call table_after_step_call
returns c =
    let a = c.args in
    let h = eq-eqb (length a.ledger.now) 988 (omega arith) in
    let j = eq-eqb (length a.judgement.now) 4280 (omega arith) in
    let d = c.step.ensures in
    record {
      value = c.code.ensures ∙ rw (d.value, h, j);
      judgement_after = d.judgement_after ∙ rw (h, j);
      ledger_after = d.kept_after ∙ rw (h, j);
      table_after = d.table_after ∙ rw (h, j);
    }
