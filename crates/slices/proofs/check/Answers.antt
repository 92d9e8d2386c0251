use Rattle.slices.specs.Steps.{checked_in}
use Rattle.slices.proofs.check.Goals as goal

pub returns : goal.returns
unfolding checked_in
returns c =
    record {
      value = c.not_yet.ensures;
      judgement_after = cc;
    }
