use Rattle.std.proofs.Common.{arith}
use Rattle.text.proofs.PenLaws.{then, text_as}
use Rattle.replay.proofs.LookLaws.{pool_as}
use Rattle.replay.proofs.put_pool_and_root.Goals as goal

pub returns : goal.returns
returns c = text_as (omega arith) (pool_as c.zatoshi.ensures c.root.ensures) (then c.put_count.ensures (then c.put_named.ensures c.put.ensures))
