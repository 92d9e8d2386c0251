use Rattle.std.proofs.Common.{arith}
use Rattle.text.proofs.PenLaws.{then, text_as}
use Rattle.replay.proofs.LookLaws.{memory_as}
use Rattle.replay.proofs.put_memory.Goals as goal

pub returns : goal.returns
returns c = text_as (omega arith) (memory_as _ _ _) (then c.put_hash.ensures (then c.put_hash-2.ensures (then c.put_hash-3.ensures c.put.ensures)))
