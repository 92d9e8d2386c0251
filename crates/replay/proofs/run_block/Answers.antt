use Rattle.std.proofs.Common.{sym, length-take-le}
use Rattle.replay.proofs.TurnLaws.{block_plays}
use Rattle.replay.proofs.run_block.Goals as goal

pub slice_bounds-close-end : goal.slice_bounds-close-end
slice_bounds-close-end c = sym (length-take-le _ _ c.requires.table)

pub slice_bounds-close-end-3 : goal.slice_bounds-close-end-3
slice_bounds-close-end-3 c = sym (length-take-le _ _ c.requires.roll)

pub returns : goal.returns
returns c =
    block_plays _ _ _ _ _ _ _ _ c.requires c.close-a.ensures.answer_value c.close-a.ensures.ledger_value c.close-a.ensures.roll_after c.close-a.auto.roll
    c.put_answer_line.ensures c.going_on.ensures
