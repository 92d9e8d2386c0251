use Rattle.bag.specs.Contents.{row_count}
use Rattle.bag.proofs.row_count.Goals as goal

pub returns : goal.returns
unfolding row_count
returns c = c.le16.ensures
