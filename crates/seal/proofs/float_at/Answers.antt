use mathlib.Core.Path.{ap, ◌∙◌}
use lib.Ieee.{binary64, of_bits}
use Rattle.seal.specs.Body.{float_of}
use Rattle.seal.proofs.float_at.Goals as goal

pub returns : goal.returns
unfolding float_of
returns c = c.float_of.ensures ∙ ap (of_bits binary64) c.le64.ensures
