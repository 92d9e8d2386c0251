-- Before each row, the whole table is in order exactly when the rows that are left are, read from the place where the next body must begin: a wrong kind or a wrong start says no, and no row left says yes.
use Prim.Native.Nat.{◌-◌}
use mathlib.Core.Path.{◌≡◌, sym, ◌∙◌}
use native.Mathlib.Omega.{arith}
use Rattle.bag.proofs.OrderLaws.{next_row, wrong_kind, wrong_start, all_rows}
use Rattle.bag.proofs.is_in_order.Goals as goal

pub loop-i-init : goal.loop-i-init
loop-i-init c =
    let n = c.args.n in
    let e : n - 0 ≡ n = omega arith in
    record { bound = omega arith; left = rw e }

pub returns-then-e-kind_at : goal.returns-then-e-kind_at
returns-then-e-kind_at c =
    let a = c.args in
    sym (c.loop-i.invariant.left ∙ wrong_kind a.n c.loop-i.i c.loop-i.at a.bag.now c.entry_at-e.result c.kind_at.result (omega arith) c.entry_at-e.ensures c.kind_at.ensures c.if-e-kind_at.true)

pub returns-then-e-at : goal.returns-then-e-at
returns-then-e-at c =
    let a = c.args in
    sym (c.loop-i.invariant.left ∙ wrong_start a.n c.loop-i.i c.loop-i.at a.bag.now c.entry_at-e.result c.kind_at.result (omega arith) c.entry_at-e.ensures c.kind_at.ensures c.if-e-kind_at.false c.if-e-at.true)

pub loop-i-preserved : goal.loop-i-preserved
loop-i-preserved c =
    let a = c.args in
    record {
      bound = omega arith;
      left = c.loop-i.invariant.left ∙ next_row a.n c.loop-i.i c.loop-i.at a.bag.now c.entry_at-e.result c.kind_at.result (omega arith) c.entry_at-e.ensures c.kind_at.ensures c.if-e-kind_at.false c.if-e-at.false;
    }

pub returns : goal.returns
returns c =
    let a = c.args in
    sym (c.loop-i.invariant.left ∙ all_rows a.n c.loop-i.i c.loop-i.at a.bag.now (omega arith))
