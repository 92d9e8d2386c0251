use Rattle.std.proofs.Common.{ap, arith}
use Rattle.text.specs.Words.{ascii}
use Rattle.text.specs.Answers.{answer_line}
use Rattle.text.proofs.PenLaws.{text_as}
use Rattle.replay.proofs.break_off.Goals as goal

pub returns : goal.returns
returns c =
    record {
      state_value = c.nothing.ensures;
      wrote = text_as (omega arith) (ap (answer_line (ascii "tape")) c.refused.ensures) c.put_answer_line.ensures;
    }
