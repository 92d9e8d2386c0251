use Rattle.packing.specs.Decimals.{quotient_of}
use Rattle.packing.proofs.quotient_of.Goals as goal

pub returns : goal.returns
unfolding quotient_of
returns c = rw (c.nearest_u64_to_f64-digits.ensures, c.nearest_u64_to_f64-scale.ensures, c.digits_of.ensures, c.scale_of.ensures)
