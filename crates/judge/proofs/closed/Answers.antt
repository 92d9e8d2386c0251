use mathlib.Core.Path.{refl, ap, ap₂, ◌∙◌}
use Prim.Native.Nat.{ℕ, ◌+◌, ◌*◌, ◌≤◌}
use mathlib.Core.List.{List}
use native.Mathlib.Omega.{arith}
use lib.ListN.{length}
use Rattle.octets.specs.Parts.{pasted}
use Rattle.ledger.specs.Ledgers.{most_anchors}
use Rattle.ledger.proofs.Soundness.{at_most}
use Rattle.judge.proofs.closed.Goals as goal

pub start_of-requires : goal.start_of-requires
start_of-requires c =
    let roomy : c.args.ledger.anchors + 1 ≤ most_anchors = at_most (c.args.ledger.anchors + 1) most_anchors (length c.args.roll.now) (omega (arith, c.requires)) in
    omega (arith, roomy)

pub overflow_add-next : goal.overflow_add-next
overflow_add-next c =
    let roomy : c.args.ledger.anchors + 1 ≤ most_anchors = at_most (c.args.ledger.anchors + 1) most_anchors (length c.args.roll.now) (omega (arith, c.requires)) in
    record { fits = omega (arith, roomy) }

pub returns : goal.returns
returns c =
    let a = c.args in
    let next_row = c.start_of.ensures ∙ ap (λ (k : ℕ). k * 32) c.of.ensures in
    record {
      value = refl;
      roll_after = c.copy_in.ensures.dst_after ∙ ap₂ (λ (k : ℕ) (x : List ℕ). pasted k x a.roll.now) next_row c.root-root.ensures;
    }
