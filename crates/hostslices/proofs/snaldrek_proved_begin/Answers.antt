use mathlib.Core.Path.{◌∙◌}
use native.Mathlib.Omega.{arith}
use lib.ListN.{length}
use borrow.Author.Tests.{eq-eqb, ne_eqb}
use Rattle.hostslices.specs.StepCalls.{begin_call_answer, record_after_begin_call}
use Rattle.hostslices.proofs.snaldrek_proved_begin.Goals as goal

pub returns-then-judgement-ne-JUDGEMENT_LENGTH : goal.returns-then-judgement-ne-JUDGEMENT_LENGTH
unfolding begin_call_answer record_after_begin_call
returns-then-judgement-ne-JUDGEMENT_LENGTH c =
    let h = ne_eqb (length c.args.judgement.now) 4280 c.if-judgement-ne-JUDGEMENT_LENGTH.true in
    record {
      value = c.refused.ensures ∙ rw h;
      judgement_after = rw h;
    }

pub returns : goal.returns
unfolding begin_call_answer record_after_begin_call
returns c =
    let h = eq-eqb (length c.args.judgement.now) 4280 (omega arith) in
    let d = c.begin.ensures in
    record {
      value = c.code.ensures ∙ rw (d.value, h);
      judgement_after = d.judgement_after ∙ rw h;
    }
