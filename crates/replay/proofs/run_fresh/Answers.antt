use Rattle.std.proofs.Common.{sym, length-take-le}
use Rattle.replay.proofs.TurnLaws.{fresh_plays}
use Rattle.replay.proofs.run_fresh.Goals as goal

pub slice_bounds-open-end : goal.slice_bounds-open-end
slice_bounds-open-end c = c.requires.roll

pub slice_bounds-open-end-2 : goal.slice_bounds-open-end-2
slice_bounds-open-end-2 c = sym (length-take-le _ _ c.requires.roll)

pub returns : goal.returns
returns c =
    fresh_plays _ _ _ _ _ _ _ _ c.requires c.open-a.ensures.answer_value c.open-a.ensures.ledger_value c.open-a.ensures.roll_after c.open-a.auto.roll
    c.put_answer_line.ensures c.going_on.ensures
