use Rattle.std.proofs.Common.{arith}
use Rattle.text.proofs.PenLaws.{then, text_as}
use Rattle.replay.proofs.LookLaws.{desk_as}
use Rattle.replay.proofs.put_desk.Goals as goal

pub returns : goal.returns
returns c = text_as (omega arith) (desk_as _ _) (then c.put_answer.ensures (then c.put_hash.ensures c.put.ensures))
