use mathlib.Core.Path.{◌∙◌}
use Rattle.slices.specs.Steps.{settled_in}
use Rattle.slices.proofs.settle.Goals as goal

pub returns : goal.returns
unfolding settled_in
returns c =
    record {
      value = cc;
      judgement_after = cc;
      table_after = cc;
      kept_after = c.settle_kept-answer.ensures.kept_after ∙ rw (c.answer_in-own.ensures, c.case_in.ensures);
    }
