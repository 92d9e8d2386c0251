use Rattle.desk.specs.Drafts.{with_old}
use Rattle.desk.proofs.work_out_old.Goals as goal

pub returns : goal.returns
unfolding with_old
returns c = cc
