-- The first unfit word of all is that of those from word i + 1 on.
use mathlib.Core.Bool.{not}
use Rattle.std.proofs.Common.{◌≡◌, ℕ, ◌+◌, sym, refl, ap, ◌∙◌, arith, rules}
use native.Mathlib.Nat.{sub-zero}
use borrow.Author.Tests.{not-true, not-false}
use Rattle.packing.proofs.SizeLaws.{fit_next, unfit, all_fit}
use Rattle.packing.proofs.first_unfit.Goals as goal

pub loop-i-init : goal.loop-i-init
loop-i-init c = (search rules, (search rules, (search rules, rw sub-zero refl)))

pub returns-then-not-is_fit : goal.returns-then-not-is_fit
returns-then-not-is_fit c =
    let a = c.args in
    sym (c.loop-i.invariant.1.1.1 ∙ unfit a.n c.loop-i.i a.kind a.line.now (omega arith) (sym c.is_fit.ensures ∙ not-true c.is_fit.result (ap not c.if-not-is_fit.true)))

pub loop-i-preserved : goal.loop-i-preserved
loop-i-preserved c =
    let a = c.args in
    let v = c.loop-i.invariant.1 in
    (search rules, (v.0, (v.1.0, v.1.1 ∙ fit_next a.n c.loop-i.i a.kind a.line.now (omega arith) (sym c.is_fit.ensures ∙ not-false c.is_fit.result (ap not c.if-not-is_fit.false)))))

pub returns : goal.returns
returns c =
    let a = c.args in
    let e : c.loop-i.i ≡ a.n = omega arith in
    sym (c.loop-i.invariant.1.1.1 ∙ all_fit a.n c.loop-i.i a.kind a.line.now (omega arith) ∙ ap (λ (i : ℕ). i + 1) e)
