use mathlib.Core.Path.{sym, ap, ◌∙◌}
use lib.Ieee.{binary64, to_bits}
use Rattle.seal.proofs.Bits.{is_nan_lem}
use Rattle.host.proofs.bits_of.Goals as goal

pub returns-then-is_nan : goal.returns-then-is_nan
unfolding to_bits
returns-then-is_nan c = sym (ap (to_bits binary64) (is_nan_lem c.args.x (sym c.is_nan.ensures.value ∙ c.if-is_nan.true)))
