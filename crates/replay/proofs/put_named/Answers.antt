use Rattle.std.proofs.Common.{refl, arith}
use Rattle.text.proofs.PenLaws.{then, text_as}
use Rattle.replay.proofs.put_named.Goals as goal

pub returns : goal.returns
returns c = text_as (omega arith) refl (then c.put.ensures c.put_hex.ensures)
