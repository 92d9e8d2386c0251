use Rattle.std.proofs.Common.{arith}
use Rattle.text.proofs.PenLaws.{then, text_as}
use Rattle.packing.proofs.TextLaws.{other_as}
use Rattle.packing.proofs.put_other_bytes.Goals as goal

pub returns : goal.returns
returns c = text_as (omega arith) (other_as _ _) (then c.put_count.ensures c.put_sentence.ensures)
