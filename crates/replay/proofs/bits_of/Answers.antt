use mathlib.Core.Path.{sym, ◌∙◌}
use Rattle.replay.specs.Looks.{pull_bits}
use Rattle.replay.proofs.bits_of.Goals as goal

pub returns-then-is_nan : goal.returns-then-is_nan
unfolding pull_bits
returns-then-is_nan c = simp (sym c.is_nan.ensures.value ∙ c.if-is_nan.true)

pub returns : goal.returns
unfolding pull_bits
returns c = simp (sym c.is_nan.ensures.value ∙ c.if-is_nan.false)
