use Rattle.octets.specs.Numbers.{big}
use native.Mathlib.Omega.{arith}
use Rattle.octets.proofs.be64_of.Goals as goal

pub returns : goal.returns
unfolding big
returns c = omega arith
