use Rattle.desk.specs.Drafts.{with_new_notes}
use Rattle.desk.proofs.work_out_new_notes.Goals as goal

pub returns : goal.returns
unfolding with_new_notes
returns c = cc
