use Rattle.std.proofs.Common.{refl, arith}
use Rattle.text.proofs.PenLaws.{then, text_as}
use Rattle.replay.specs.Looks.{row_line}
use Rattle.replay.proofs.put_row.Goals as goal

pub returns : goal.returns
unfolding row_line
returns c = text_as (omega arith) refl (then c.put_named.ensures c.put.ensures)
