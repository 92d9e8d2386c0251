use Rattle.slices.specs.Records.{with_steps}
use Rattle.slices.proofs.put_steps.Goals as goal

pub returns : goal.returns
unfolding with_steps
returns c = c.copy_in.ensures.dst_after
