use mathlib.Core.Path.{sym}
use lib.Ieee
use lib.Ieee.{binary64}
use Rattle.seal.proofs.Bits.{above_nan, below_no_nan}
use Rattle.seal.proofs.float_of.Goals as goal

pub returns-then-bits-gt9218868437227405312 : goal.returns-then-bits-gt9218868437227405312
unfolding Ieee.div Ieee.of_bits
returns-then-bits-gt9218868437227405312 c = sym (above_nan binary64 c.args.bits c.if-bits-gt9218868437227405312.true)

pub float_from_bits-result : goal.float_from_bits-result
float_from_bits-result c = below_no_nan binary64 c.args.bits c.if-bits-gt9218868437227405312.false
