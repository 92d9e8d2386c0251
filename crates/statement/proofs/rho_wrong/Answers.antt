use Rattle.statement.specs.CaseRefusals.{rho_wrong}
use Rattle.statement.proofs.rho_wrong.Goals as goal

pub returns : goal.returns
unfolding rho_wrong
returns c = cc
