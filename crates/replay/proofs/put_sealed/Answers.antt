use Rattle.std.proofs.Common.{ap, ◌∙◌, arith}
use Rattle.seal.specs.Pull.{seal_answer}
use Rattle.text.proofs.PenLaws.{text_as}
use Rattle.replay.proofs.LookLaws.{passed_is, refused_is}
use Rattle.replay.proofs.put_sealed.Goals as goal

pub returns-in-Ok : goal.returns-in-Ok
returns-in-Ok c = text_as (omega arith) (passed_is _ _ _ c.in-Ok.is (c.answer-a.ensures ∙ ap seal_answer c.in-Ok.is)) c.put_passed.ensures

pub returns-in-Err : goal.returns-in-Err
returns-in-Err c = text_as (omega arith) (refused_is _ _ _ c.in-Err.is (c.answer-a.ensures ∙ ap seal_answer c.in-Err.is)) c.put_answer_line.ensures
