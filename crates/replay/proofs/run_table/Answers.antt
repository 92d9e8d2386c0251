-- Where the rows can be laid, they lie within the lent part, and what was laid there is carried to the whole buffer; where not, the tape is broken.
use Rattle.std.proofs.Common.{sym, length-take-le}
use Rattle.replay.proofs.TurnLaws.{plays_as, plays_broken, can_lay_whole, table_plays, table_broken}
use Rattle.replay.proofs.run_table.Goals as goal

pub slice_bounds-lay_rows-end : goal.slice_bounds-lay_rows-end
slice_bounds-lay_rows-end c = c.requires.table

pub slice_bounds-lay_rows-end-then-can_lay : goal.slice_bounds-lay_rows-end-then-can_lay
slice_bounds-lay_rows-end-then-can_lay c = sym (length-take-le _ _ c.requires.table)

pub lay_rows-requires : goal.lay_rows-requires
lay_rows-requires c = can_lay_whole _ _ c.can_lay.ensures c.if-can_lay.true

pub returns-then-can_lay : goal.returns-then-can_lay
returns-then-can_lay c = table_plays _ _ _ _ _ _ _ _ _ c.requires c.accepted.ensures c.put_answer_line.ensures c.can_lay.ensures c.if-can_lay.true c.lay_rows.ensures c.lay_rows.auto.bytes

pub returns : goal.returns
returns c = plays_as (table_broken _ _ _ _ c.can_lay.ensures c.if-can_lay.false) (plays_broken c.break_off.ensures.state_value c.break_off.ensures.wrote)
