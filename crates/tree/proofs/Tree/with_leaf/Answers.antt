use mathlib.Core.Path.{sym, ap, ◌∙◌}
use Prim.Native.Nat.{ℕ, ◌+◌}
use mathlib.Core.List.{List}
use native.Mathlib.Omega.{arith}
use Rattle.tree.proofs.Grown.{with_leaf, with_full}
use Rattle.tree.proofs.Tree.with_leaf.Goals as goal

pub returns-then-self-ge-TREE_LEAVES : goal.returns-then-self-ge-TREE_LEAVES
returns-then-self-ge-TREE_LEAVES c =
    let a = c.args in
    sym (with_full a.self a.leaf (omega arith))

pub returns : goal.returns
returns c =
    let a = c.args in
    ap (λ (ns : List ℕ). record { leaves = a.self.leaves + 1; nodes = ns }) c.carried-self.ensures ∙ sym (with_leaf a.self a.leaf (omega arith))
