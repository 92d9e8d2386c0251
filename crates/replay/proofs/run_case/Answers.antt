use Rattle.std.proofs.Common.{[], arith}
use Rattle.replay.specs.Tape.{case_turn, case_on}
use Rattle.replay.proofs.TurnLaws.{judged_plays}
use Rattle.replay.proofs.run_case.Goals as goal

pub returns : goal.returns
unfolding case_turn case_on
returns c = judged_plays [] _ _ _ _ _ _ _ _ _ (omega arith) c.requires c.judged-a.ensures.value c.judged-a.ensures.table_after c.judged-a.auto.table c.put_answer_and_row.ensures c.going_on.ensures
