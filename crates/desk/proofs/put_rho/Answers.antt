use Rattle.desk.specs.Drafts.{with_rho}
use Rattle.desk.proofs.put_rho.Goals as goal

pub returns : goal.returns
unfolding with_rho
returns c = cc
