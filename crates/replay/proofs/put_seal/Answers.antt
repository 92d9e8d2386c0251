use Rattle.std.proofs.Common.{arith}
use Rattle.text.proofs.PenLaws.{text_as}
use Rattle.replay.proofs.LookLaws.{seal_is, seal_not}
use Rattle.replay.proofs.put_seal.Goals as goal

pub returns-in-Ok : goal.returns-in-Ok
returns-in-Ok c = text_as (omega arith) (seal_is _ _ _ _ _ _ c.float_at.ensures c.float_at-2.ensures c.read_body.ensures c.in-Ok.is c.judge.ensures) c.put_sealed.ensures

pub returns-in-Err : goal.returns-in-Err
returns-in-Err c = text_as (omega arith) (seal_not _ _ _ _ c.read_body.ensures c.in-Err.is c.from.ensures) c.put_answer_line.ensures
