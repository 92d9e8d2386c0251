-- Where the two lengths of the entry can be lent, the lent parts lie within table and roll, and the opening's promise on those parts is carried to the whole buffers; where not, the tape is broken.
use Rattle.std.proofs.Common.{sym, length-take-le}
use Rattle.replay.proofs.TurnLaws.{plays_as, plays_broken, lent_table, lent_roll, lends_by, open_plays}
use Rattle.replay.specs.Tape.{open_turn}
use Rattle.replay.proofs.run_open.Goals as goal

pub slice_bounds-opened-end : goal.slice_bounds-opened-end
slice_bounds-opened-end c = lent_table _ _ _ _ _ c.can_lend.ensures c.if-can_lend.true

pub slice_bounds-opened-end-then-can_lend : goal.slice_bounds-opened-end-then-can_lend
slice_bounds-opened-end-then-can_lend c = sym (length-take-le _ _ (lent_table _ _ _ _ _ c.can_lend.ensures c.if-can_lend.true))

pub slice_bounds-opened-end-then-can_lend-2 : goal.slice_bounds-opened-end-then-can_lend-2
slice_bounds-opened-end-then-can_lend-2 c = lent_roll _ _ _ _ _ c.can_lend.ensures c.if-can_lend.true

pub slice_bounds-opened-end-then-can_lend-3 : goal.slice_bounds-opened-end-then-can_lend-3
slice_bounds-opened-end-then-can_lend-3 c = sym (length-take-le _ _ (lent_roll _ _ _ _ _ c.can_lend.ensures c.if-can_lend.true))

pub returns-then-can_lend : goal.returns-then-can_lend
returns-then-can_lend c =
    open_plays _ _ _ _ _ _ _ _ _ _ _ _ c.le32-n.ensures c.le32-m.ensures c.can_lend.ensures c.if-can_lend.true c.opened-a.ensures.answer_value
    c.opened-a.ensures.ledger_value c.opened-a.ensures.table_after c.opened-a.ensures.roll_after c.opened-a.auto.roll c.put_answer_line.ensures c.going_on.ensures

pub returns : goal.returns
unfolding open_turn
returns c = plays_as (lends_by _ _ _ _ c.le32-n.ensures c.le32-m.ensures c.can_lend.ensures c.if-can_lend.false) (plays_broken c.break_off.ensures.state_value c.break_off.ensures.wrote)
