use Rattle.std.proofs.Common.{arith, ap, take_all}
use mathlib.Core.List.{flat_map}
use Rattle.text.proofs.PenLaws.{start, one_more, text_as}
use Rattle.day.specs.Lines.{day_row_line}
use Rattle.day.proofs.put_list.Goals as goal

pub loop-r-init : goal.loop-r-init
unfolding flat_map
loop-r-init c = start _

pub loop-r-preserved : goal.loop-r-preserved
loop-r-preserved c = one_more day_row_line c.args.rows.now c.loop-r.r-index _ (omega arith) c.loop-r.invariant c.put_row.ensures

pub returns : goal.returns
returns c = text_as (omega arith) (ap (flat_map day_row_line) (take_all c.loop-r.r-index c.args.rows.now (omega arith))) c.loop-r.invariant
