-- The lines of the rows up to the index are on the page, and are at most 67 bytes each; after four turns these are all rows.
use Rattle.std.proofs.Common.{◌*◌, take}
use mathlib.Core.List.{flat_map}
use Rattle.text.specs.Pen.{Wrote}
use Rattle.day.specs.Lines.{day_row_line}
use Rattle.day.proofs.put_list.Given as goal

abbrev pub invariant-loop-r : goal.invariant-loop-r
invariant-loop-r l = Wrote (67 * l.r-index) (flat_map day_row_line (take l.r-index l.rows)) l.initial.page l.page
