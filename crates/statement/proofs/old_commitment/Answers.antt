use Rattle.statement.specs.CaseRefusals.{old_commitment_of}
use Rattle.statement.proofs.old_commitment.Goals as goal

pub returns : goal.returns
unfolding old_commitment_of
returns c = cc
