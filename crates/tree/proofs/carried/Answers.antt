-- Adding the leaf to the whole record is to keep its first k rows and to add x, the node that is carried, to those from k on; the loop ends where the count is even or no level is left, and there x is put in row k.
use mathlib.Core.Path.{◌≡◌, refl, sym, ap, ◌∙◌}
use Prim.Native.Nat.{ℕ, ◌*◌, ◌%◌}
use mathlib.Core.List.{List}
use native.Mathlib.Omega.{arith}
use lib.ListN.{length}
use Rattle.octets.specs.Rows.{flat}
use Rattle.octets.specs.Parts.{pasted}
use Rattle.nodes.specs.CommitmentTree.{parent_of}
use Rattle.nodes.proofs.Empties.{parent_length}
use Rattle.tree.proofs.Turns.{push_turn, push_full, push_free}
use borrow.Author.Rules.{rules}
use Rattle.tree.proofs.carried.Goals as goal

pub loop-k-init : goal.loop-k-init
loop-k-init c = (search rules, (search rules, (search rules, refl)))

pub returns-then-n-eq0 : goal.returns-then-n-eq0
returns-then-n-eq0 c =
    let l = c.loop-k in
    c.copy_in.ensures.dst_after ∙ sym (ap flat l.invariant.1.1.1 ∙ push_free l.t l.x l.k l.n l.invariant.1.0 l.invariant.1.1.0 (omega arith) (omega arith))

pub loop-k-preserved : goal.loop-k-preserved
loop-k-preserved c =
    let l = c.loop-k in
    let odd : l.n % 2 ≡ 1 = omega arith in
    let made = c.parent-x.ensures ∙ ap (λ (r : List ℕ). parent_of r l.x) c.part-waiting.ensures in (
      search rules,
      (
        search rules,
        (
          ap length c.parent-x.ensures ∙ parent_length _ _,
          l.invariant.1.1.1 ∙ push_turn l.t l.x c.parent-x.result l.k l.n l.invariant.1.0 (omega arith) odd made,
        ),
      ),
    )

pub returns : goal.returns
returns c =
    let l = c.loop-k in
    let e : 928 ≡ l.k * 32 = omega arith in
    c.copy_in-2.ensures.dst_after ∙ ap (λ (at : ℕ). pasted at l.x l.t) e
    ∙ sym (ap flat l.invariant.1.1.1 ∙ push_full l.t l.x l.k l.n l.invariant.1.0 l.invariant.1.1.0 (omega arith))
