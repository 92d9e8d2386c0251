use Rattle.std.proofs.Common.{arith}
use Rattle.text.proofs.PenLaws.{then, text_as}
use Rattle.replay.proofs.LookLaws.{passed_as}
use Rattle.replay.proofs.put_passed.Goals as goal

pub returns : goal.returns
returns c = text_as (omega arith) (passed_as _ _ _ c.bits_of.ensures) (then c.put_answer.ensures (then c.put.ensures (then c.put_hex64.ensures c.put-2.ensures)))
