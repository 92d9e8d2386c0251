use Rattle.nodes.specs.CommitmentTree.{parent_of}
use Rattle.nodes.proofs.parent.Goals as goal

pub returns : goal.returns
unfolding parent_of
returns c = c.compress_halves.ensures
