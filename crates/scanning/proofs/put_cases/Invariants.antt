-- The lines of the answers up to the index are on the page; at the end these are all.
use Rattle.std.proofs.Common.{◌*◌, take}
use Rattle.text.specs.Pen.{Wrote}
use Rattle.scanning.specs.Lines.{case_lines}
use Rattle.scanning.proofs.put_cases.Given as goal

abbrev pub invariant-loop-a : goal.invariant-loop-a
invariant-loop-a l = Wrote (72 * l.a-index) (case_lines l.rows (take l.a-index l.answers)) l.initial.page l.page
