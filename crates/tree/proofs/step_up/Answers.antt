use mathlib.Core.Path.{◌≡◌, sym, ◌∙◌}
use Prim.Native.Nat.{◌%◌}
use native.Mathlib.Omega.{arith}
use borrow.Author.Tests.{eqb-true, eqb-false}
use Rattle.nodes.specs.Trees.{up_of}
use Rattle.tree.specs.Record.{step_of}
use Rattle.tree.proofs.step_up.Goals as goal

pub returns-then-is_right : goal.returns-then-is_right
unfolding step_of up_of
returns-then-is_right c =
    let a = c.args in
    let right : a.position.0 % 2 ≡ 1 = eqb-true (a.position.0 % 2) 1 (sym c.is_right.ensures ∙ c.if-is_right.true) in
    rw right c.parent.ensures

pub returns-else-is_right : goal.returns-else-is_right
unfolding step_of up_of
returns-else-is_right c =
    let a = c.args in
    let left : a.position.0 % 2 ≡ 0 = omega (arith, eqb-false (a.position.0 % 2) 1 (sym c.is_right.ensures ∙ c.if-is_right.false)) in
    rw left c.parent-else-is_right.ensures
