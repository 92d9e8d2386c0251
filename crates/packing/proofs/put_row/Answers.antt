use Rattle.std.proofs.Common.{arith}
use Rattle.text.proofs.PenLaws.{then, text_as}
use Rattle.packing.proofs.TextLaws.{row_as}
use Rattle.packing.proofs.put_row.Goals as goal

pub returns : goal.returns
returns c = text_as (omega arith) (row_as _ _ _ c.le_bytes32.ensures c.le_bytes32-2.ensures) (then c.put.ensures (then c.put-2.ensures c.put-3.ensures))
