use mathlib.Core.Path.{ap}
use Rattle.refusals.specs.Rules.{answer_in_row}
use Rattle.refusals.proofs.rowless.Goals as goal

pub returns : goal.returns
returns c = ap (answer_in_row _ _) c.of.ensures
