-- The bytes up to the index are on the page, each a text of its own of one byte; at the end these are all bytes.
use Rattle.std.proofs.Common.{◌*◌, ◌≤◌, [], ◌∷◌, take}
use mathlib.Core.List.{flat_map}
use Rattle.text.specs.Pen.{pen, Wrote}
use Rattle.text.proofs.Page.put.Given as goal

abbrev pub invariant-loop-x : goal.invariant-loop-x
invariant-loop-x g l = Wrote (1 * l.x-index) (flat_map (λ x. x ∷ []) (take l.x-index l.words)) l.fn.self (pen l.self-inside.bytes l.at) × (l.at ≤ g.row.N)
