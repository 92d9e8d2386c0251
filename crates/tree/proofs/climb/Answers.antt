-- The end of the whole path from the leaf is that of the path from level k on, from the node reached; a turn is one step up, and after 29 turns no sibling is left.
use mathlib.Core.Path.{refl, sym, ap, ◌∙◌}
use native.Mathlib.Omega.{arith}
use Rattle.tree.specs.Record.{path_end, step_of}
use Rattle.tree.proofs.Turns.{climb_turn, climb_end}
use borrow.Author.Rules.{rules}
use Rattle.tree.proofs.climb.Goals as goal

pub loop-k-init : goal.loop-k-init
loop-k-init c = (search rules, refl)

pub loop-k-preserved : goal.loop-k-preserved
loop-k-preserved c =
    let a = c.args in
    let t = c.step_up-x.ensures ∙ ap (step_of c.loop-k.p.0 c.loop-k.x) c.part-sibling.ensures in
    (search rules, c.loop-k.invariant.1 ∙ climb_turn a.path.now c.loop-k.x c.step_up-x.result c.loop-k.k c.loop-k.p.0 (omega arith) t ∙ rw c.parent-p.ensures)

pub returns : goal.returns
unfolding path_end
returns c =
    let a = c.args in
    sym (c.loop-k.invariant.1 ∙ climb_end a.path.now c.loop-k.x c.loop-k.x c.loop-k.k c.loop-k.p.0 (omega arith))
