use Rattle.desk.specs.Drafts.{with_new}
use Rattle.desk.proofs.work_out_new.Goals as goal

pub returns : goal.returns
unfolding with_new
returns c = cc
