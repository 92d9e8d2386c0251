use Rattle.text.proofs.PenLaws.{then}
use Rattle.text.proofs.Page.put_count.Goals as goal

pub returns : goal.returns
returns g c = then c.put.ensures c.put_number.ensures
