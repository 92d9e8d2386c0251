use Rattle.desk.specs.Drafts.{with_old_notes}
use Rattle.desk.proofs.work_out_old_notes.Goals as goal

pub returns : goal.returns
unfolding with_old_notes
returns c = cc
