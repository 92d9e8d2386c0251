-- The record's root is what joining its nodes from level k on gives, with the node made so far and the empty root of level k; at level 29 it is that node, or the top row where the tree is full.
use mathlib.Core.Path.{refl, sym, ◌∙◌}
use native.Mathlib.Omega.{arith}
use Rattle.nodes.specs.Trees.{empty_at}
use Rattle.nodes.specs.CommitmentTree.{empty_leaf, empty_root}
use Rattle.tree.specs.Record.{record_root}
use Rattle.tree.proofs.Turns.{fold_turn, fold_open, fold_full}
use borrow.Author.Rules.{rules}
use Rattle.tree.proofs.Tree.root.Goals as goal

pub loop-k-init : goal.loop-k-init
unfolding empty_root empty_at empty_leaf
loop-k-init c = (search rules, (search rules, refl))

pub loop-k-preserved : goal.loop-k-preserved
loop-k-preserved c =
    let a = c.args.self in
    (search rules, (search rules, c.loop-k.invariant.1.1 ∙ fold_turn a.nodes c.loop-k.x c.join-x.result c.loop-k.k c.loop-k.n c.loop-k.invariant.1.0 (omega arith) c.join-x.ensures))

pub returns-then-n-eq0 : goal.returns-then-n-eq0
unfolding record_root
returns-then-n-eq0 c =
    let a = c.args.self in
    sym (c.loop-k.invariant.1.1 ∙ fold_open a.nodes c.loop-k.x c.loop-k.k c.loop-k.n c.loop-k.invariant.1.0 (omega arith) (omega arith))

pub returns-else-n-eq0 : goal.returns-else-n-eq0
unfolding record_root
returns-else-n-eq0 c =
    let a = c.args.self in
    c.part.ensures ∙ sym (c.loop-k.invariant.1.1 ∙ fold_full a.nodes c.loop-k.x c.loop-k.k c.loop-k.n c.loop-k.invariant.1.0 (omega arith) (omega arith))
