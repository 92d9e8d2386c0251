use mathlib.Core.Path.{◌≡◌, sym, ap, ap₂, ◌∙◌}
use Prim.Native.Nat.{ℕ, ◌*◌}
use mathlib.Core.List.{List}
use native.Mathlib.Omega.{arith}
use borrow.Author.Tests.{eq-eqb, ne_eqb}
use lib.ListN.{length}
use Rattle.octets.specs.Parts.{pasted}
use Rattle.refusals.specs.Rules.{is_accepted}
use Rattle.refusals.proofs.RuleLaws.{one_holds, one_fails}
use Rattle.nodes.specs.CommitmentTree.{parent_of, empty_leaf, empty_root, tree_root}
use Rattle.nodes.proofs.TreeLaws.{root_empty}
use Rattle.ledger.specs.Ledgers.{most_anchors, room_in, open_refusals}
use Rattle.ledger.proofs.Endings.{open_refused, open_passed}
use Rattle.judge.proofs.open.Goals as goal

pub returns-then-room_in-eq0 : goal.returns-then-room_in-eq0
unfolding open_refusals
returns-then-room_in-eq0 c =
    let r = c.args.roll.now in
    let h : room_in most_anchors (length r) ≡ 0 = omega arith in
    let all = one_holds _ 1 0 (eq-eqb (room_in most_anchors (length r)) 0 h) in
    let no = open_refused r (ap is_accepted (sym all)) in
    record {
      answer_value = c.from.ensures ∙ all;
      ledger_value = c.start.ensures ∙ no.0;
      roll_after = no.1;
    }

pub returns : goal.returns
unfolding open_refusals tree_root empty_root
returns c =
    let first-row = c.start_of.ensures ∙ ap (λ (k : ℕ). k * 32) c.of.ensures in
    let r = c.args.roll.now in
    let all = one_fails _ 1 0 (ne_eqb (room_in most_anchors (length r)) 0 (λ z. c.if-room_in-eq0.false (c.room_in.ensures ∙ z))) in
    let yes = open_passed r (ap is_accepted (sym all)) in
    record {
      answer_value = c.accepted.ensures ∙ all;
      ledger_value = c.start-2.ensures ∙ yes.0;
      roll_after = c.copy_in.ensures.dst_after ∙ ap₂ (λ (k : ℕ) (x : List ℕ). pasted k x r) first-row (c.empty_root-root.ensures ∙ sym (root_empty parent_of empty_leaf 29)) ∙ yes.1;
    }
