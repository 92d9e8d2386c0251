use mathlib.Core.Path.{ap}
use native.Mathlib.Omega.{arith}
use Rattle.text.specs.Words.{ascii}
use Rattle.text.specs.Answers.{answer_line}
use Rattle.text.proofs.PenLaws.{text_as, holds}
use Rattle.tray.proofs.broken_page.Goals as goal

pub returns : goal.returns
returns c =
    let k = c.put_answer_line.ensures in
    holds {a = 47} {n = 640} (omega arith) c.new-page.ensures (text_as (omega arith) (ap (answer_line (ascii "tray")) c.refused.ensures) k)
