use Rattle.slices.specs.Records.{steps_in}
use Rattle.slices.proofs.steps_in.Goals as goal

pub returns : goal.returns
unfolding steps_in
returns c = c.byte_from.ensures
