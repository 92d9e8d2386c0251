use Rattle.packing.specs.Decimals.{is_negative}
use Rattle.packing.proofs.is_negative.Goals as goal

pub returns : goal.returns
unfolding is_negative
returns c = rw c.byte_from.ensures
