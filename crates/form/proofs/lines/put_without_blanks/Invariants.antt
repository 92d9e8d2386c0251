-- The bytes up to the index are on the page, each by its own text, which is empty for a blank; at the end these are all bytes.
use Rattle.std.proofs.Common.{◌*◌, take}
use mathlib.Core.List.{flat_map}
use Rattle.text.specs.Pen.{Wrote}
use Rattle.form.specs.Lines.{ink_of}
use Rattle.form.proofs.lines.put_without_blanks.Given as goal

abbrev pub invariant-loop-x : goal.invariant-loop-x
invariant-loop-x l = Wrote (1 * l.x-index) (flat_map ink_of (take l.x-index l.s)) l.initial.page l.page
