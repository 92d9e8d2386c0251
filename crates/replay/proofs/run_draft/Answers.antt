use mathlib.Core.Bool.{not}
use mathlib.Core.Path.{ap}
use Rattle.std.proofs.Common.{sym, refl, ◌∙◌, arith}
use borrow.Author.Tests.{not-true, not-false}
use Rattle.replay.proofs.TurnLaws.{plays_as, plays, draft_refused, draft_plays}
use Rattle.replay.proofs.run_draft.Goals as goal

pub returns-then-not-is_accepted : goal.returns-then-not-is_accepted
returns-then-not-is_accepted c =
    plays_as (draft_refused _ _ _ _ _ _ _ (c.from-answer.ensures ∙ c.write.ensures.value) c.write.ensures.buffer_after (sym c.is_accepted.ensures ∙ not-true _ (ap not c.if-not-is_accepted.true)))
    (plays (omega arith) refl c.requires c.put_desk.ensures)

pub shape_of-buffer : goal.shape_of-buffer
shape_of-buffer c = c.write.auto.buffer

pub returns : goal.returns
returns c = draft_plays _ _ _ _ _ _ _ (c.from-answer.ensures ∙ c.write.ensures.value) c.write.ensures.buffer_after (sym c.is_accepted.ensures ∙ not-false _ (ap not c.if-not-is_accepted.false)) c.put_desk.ensures c.requires c.judged-a.ensures.value c.judged-a.ensures.table_after c.judged-a.auto.table c.put_answer_and_row.ensures c.going_on.ensures
