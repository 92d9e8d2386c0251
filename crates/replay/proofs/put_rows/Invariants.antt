-- After i turns the lines of the first i rows are on the page.
use Rattle.std.proofs.Common.{◌+◌, ◌*◌, length, take}
use mathlib.Core.List.{flat_map}
use Rattle.text.specs.Pen.{Wrote}
use Rattle.replay.specs.Looks.{row_line}
use Rattle.replay.proofs.put_rows.Given as goal

abbrev pub invariant-loop-row : goal.invariant-loop-row
invariant-loop-row l = Wrote ((length l.word + 65) * l.row-index) (flat_map (row_line l.word) (take l.row-index l.row-items)) l.initial.page l.page
