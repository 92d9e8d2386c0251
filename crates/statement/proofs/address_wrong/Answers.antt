use Rattle.statement.specs.CaseRefusals.{address_wrong}
use Rattle.statement.proofs.address_wrong.Goals as goal

pub returns : goal.returns
unfolding address_wrong
returns c = cc
