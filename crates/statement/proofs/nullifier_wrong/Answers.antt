use Rattle.statement.specs.CaseRefusals.{nullifier_wrong}
use Rattle.statement.proofs.nullifier_wrong.Goals as goal

pub returns : goal.returns
unfolding nullifier_wrong
returns c = cc
