use Rattle.std.proofs.Common.{arith}
use Rattle.text.proofs.PenLaws.{then, text_as}
use Rattle.replay.proofs.LookLaws.{rows_as, shown_there, shown_most}
use Rattle.replay.proofs.put_all_rows.Goals as goal

pub put_rows-requires : goal.put_rows-requires
put_rows-requires c =
    shown_there _ _ _ c.rows_shown-n.ensures

pub put_rows-requires-2 : goal.put_rows-requires-2
put_rows-requires-2 c =
    shown_there _ _ _ c.rows_shown-m.ensures

pub returns : goal.returns
returns c = text_as (omega (arith, shown_most _ _ _ c.rows_shown-n.ensures, shown_most _ _ _ c.rows_shown-m.ensures)) (rows_as _ _ _ c.rows_shown-n.ensures c.rows_shown-m.ensures) (then c.put_rows.ensures c.put_rows-2.ensures)
