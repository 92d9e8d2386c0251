use Rattle.statement.specs.CaseRefusals.{no10}
use Rattle.statement.proofs.paths.Goals as goal

pub returns : goal.returns
unfolding no10
returns c = c.pair.ensures
