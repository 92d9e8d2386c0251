use Rattle.slices.specs.Records.{with_case}
use Rattle.slices.proofs.take_in.Goals as goal

pub returns : goal.returns
unfolding with_case
returns c = cc
