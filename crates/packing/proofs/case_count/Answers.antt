use Rattle.packing.specs.Packing.{case_count}
use Rattle.packing.proofs.case_count.Goals as goal

pub returns : goal.returns
unfolding case_count
returns c = rw (c.saturating_sub.ensures, c.spaces.ensures)
