use Rattle.slices.specs.Records.{with_node}
use Rattle.slices.specs.Steps.{climbed_in}
use Rattle.slices.proofs.climb.Goals as goal

pub returns : goal.returns
unfolding climbed_in with_node
returns c =
    record {
      value = cc;
      judgement_after = cc;
    }
