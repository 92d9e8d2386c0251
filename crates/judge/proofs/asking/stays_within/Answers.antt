use mathlib.Core.Path.{◌≡◌, sym, ap₂, ◌∙◌}
use Prim.Native.Nat.{ℕ}
use Rattle.refusals.proofs.RuleLaws.{one_holds, one_fails}
use Rattle.ledger.specs.Ledgers.{outside, no17}
use Rattle.casefile.specs.Fields.{vpub_old_of, vpub_new_of}
use Rattle.judge.proofs.asking.stays_within.Goals as goal

pub returns-then-is_outside : goal.returns-then-is_outside
unfolding no17
returns-then-is_outside c =
    let asked : let a = c.args in
    c.is_outside.result ≡ outside a.counts.pool.0 (vpub_old_of a.case.now) (vpub_new_of a.case.now) = let a = c.args in
    c.is_outside.ensures ∙ ap₂ (λ (x y : ℕ). outside a.counts.pool.0 x y) c.vpub_old-old.ensures c.vpub_new-new.ensures in
    one_holds _ 17 0 (sym (asked) ∙ c.if-is_outside.true)

pub returns-else-is_outside : goal.returns-else-is_outside
unfolding no17
returns-else-is_outside c =
    let asked : let a = c.args in
    c.is_outside.result ≡ outside a.counts.pool.0 (vpub_old_of a.case.now) (vpub_new_of a.case.now) = let a = c.args in
    c.is_outside.ensures ∙ ap₂ (λ (x y : ℕ). outside a.counts.pool.0 x y) c.vpub_old-old.ensures c.vpub_new-new.ensures in
    one_fails _ 17 0 (sym (asked) ∙ c.if-is_outside.false)
