use Rattle.statement.specs.CaseRefusals.{tag_wrong}
use Rattle.statement.proofs.tag_wrong.Goals as goal

pub returns : goal.returns
unfolding tag_wrong
returns c = cc
