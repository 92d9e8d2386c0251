use Rattle.statement.specs.CaseRefusals.{commitment_wrong}
use Rattle.statement.proofs.commitment_wrong.Goals as goal

pub returns : goal.returns
unfolding commitment_wrong
returns c = cc
