use native.Mathlib.Omega.{arith}
use Rattle.slices.proofs.RecordLaws.{no_record, first_edition, second_edition, no_edition}
use Rattle.slices.proofs.case_in.Goals as goal

pub returns-then-judgement-ne-JUDGEMENT_LENGTH : goal.returns-then-judgement-ne-JUDGEMENT_LENGTH
returns-then-judgement-ne-JUDGEMENT_LENGTH c = no_record c.args.judgement.now c.if-judgement-ne-JUDGEMENT_LENGTH.true

pub returns-then-edition-eq1 : goal.returns-then-edition-eq1
returns-then-edition-eq1 c = first_edition c.args.judgement.now (omega (arith, c.if-judgement-ne-JUDGEMENT_LENGTH.false)) c.if-edition-eq1.true

pub returns-then-edition-eq2 : goal.returns-then-edition-eq2
returns-then-edition-eq2 c = second_edition c.args.judgement.now (omega (arith, c.if-judgement-ne-JUDGEMENT_LENGTH.false)) c.if-edition-eq2.true

pub returns : goal.returns
returns c = no_edition c.args.judgement.now (omega (arith, c.if-judgement-ne-JUDGEMENT_LENGTH.false)) c.if-edition-eq1.false c.if-edition-eq2.false
