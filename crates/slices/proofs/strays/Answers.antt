use Rattle.slices.specs.Steps.{strays_in}
use Rattle.slices.proofs.strays.Goals as goal

pub returns : goal.returns
unfolding strays_in
returns c = cc
