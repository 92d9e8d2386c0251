use mathlib.Core.Path.{◌≡◌, ap, ◌∙◌}
use Prim.Native.Nat.{ℕ, ◌%◌, min}
use mathlib.Core.List.{List}
use native.Mathlib.Omega.{arith}
use Rattle.nodes.specs.Trees.{join_of}
use Rattle.nodes.specs.CommitmentTree.{parent_of, empty_root}
use Rattle.tree.proofs.join.Goals as goal

pub returns-then-count-eq0 : goal.returns-then-count-eq0
unfolding join_of
returns-then-count-eq0 c =
    let a = c.args in
    let even : a.count % 2 ≡ 0 = omega arith in
    let level : min a.level 29 ≡ a.level = omega arith in
    rw even (c.parent.ensures ∙ ap (parent_of a.x.now) (c.empty_root-e.ensures ∙ ap empty_root level))

pub returns-else-count-eq0 : goal.returns-else-count-eq0
unfolding join_of
returns-else-count-eq0 c =
    let a = c.args in
    let odd : a.count % 2 ≡ 1 = omega arith in
    rw odd (c.parent-else-count-eq0.ensures ∙ ap (λ (r : List ℕ). parent_of r a.x.now) c.part-waiting.ensures)
