use Rattle.std.proofs.Common.{arith}
use Rattle.text.proofs.PenLaws.{then, text_as}
use Rattle.replay.proofs.LookLaws.{ledger_as}
use Rattle.replay.proofs.put_ledger.Goals as goal

pub returns : goal.returns
returns c = text_as (omega arith) (ledger_as _) (then c.put_count.ensures (then c.put_count-2.ensures (then c.put_count-3.ensures c.put_pool_and_root.ensures)))
