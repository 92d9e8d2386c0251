use Rattle.text.proofs.PenLaws.{then}
use Rattle.packing.proofs.put_sentence.Goals as goal

pub returns : goal.returns
returns c = then c.put_count.ensures c.put.ensures
