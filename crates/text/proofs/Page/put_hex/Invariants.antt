-- The digits of the bytes up to the index are on the page, two for each; at the end these are those of all bytes.
use Rattle.std.proofs.Common.{◌*◌, ◌≤◌, take}
use Rattle.text.specs.Hex.{hex}
use Rattle.text.specs.Pen.{pen, Wrote}
use Rattle.text.proofs.Page.put_hex.Given as goal

abbrev pub invariant-loop-x : goal.invariant-loop-x
invariant-loop-x g l = Wrote (2 * l.x-index) (hex (take l.x-index l.bytes)) l.fn.self (pen l.self-inside.bytes l.at) × (l.at ≤ g.row.N)
