use mathlib.Core.Path.{ap}
use mathlib.Core.Bool.{not}
use Rattle.statement.specs.CaseRefusals.{differs}
use Rattle.statement.proofs.differ.Goals as goal

pub returns : goal.returns
unfolding differs
returns c = ap not c.same.ensures
