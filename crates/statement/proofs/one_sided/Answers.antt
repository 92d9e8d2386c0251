-- Both public values are nonzero, or one is zero: the three returns are old value zero, new value zero, and none zero, and only the last one is refusal 4.
use mathlib.Core.Path.{◌≡◌, sym, ap, ◌∙◌}
use Prim.Native.Nat.{ℕ}
use mathlib.Core.Bool.{true, false, not, and-false}
use lib.Dec.{eqb}
use Rattle.casefile.specs.Fields.{vpub_old_of, vpub_new_of}
use Rattle.statement.specs.CaseRefusals.{no4, both_public}
use Rattle.refusals.proofs.RuleLaws.{one_holds, one_fails}
use Rattle.statement.proofs.one_sided.Goals as goal

none : (old new : ℕ) → eqb old 0 ≡ true → both_public old new ≡ false
unfolding both_public
none old new e = rw e

old_alone : (old new : ℕ) → eqb new 0 ≡ true → both_public old new ≡ false
unfolding both_public
old_alone old new e = rw e (and-false (not (eqb old 0)))

both : (old new : ℕ) → eqb old 0 ≡ false → eqb new 0 ≡ false → both_public old new ≡ true
unfolding both_public
both old new e f = rw (e, f)

pub returns-then-is_zero : goal.returns-then-is_zero
unfolding no4
returns-then-is_zero c =
    let case = c.args.case.now in
    let e : eqb (vpub_old_of case) 0 ≡ true = ap (λ (v : ℕ). eqb v 0) (sym c.vpub_old.ensures) ∙ sym c.is_zero.ensures ∙ c.if-is_zero.true in
    one_fails (both_public (vpub_old_of case) (vpub_new_of case)) 4 0 (none (vpub_old_of case) (vpub_new_of case) e)

pub returns-then-is_zero-2 : goal.returns-then-is_zero-2
unfolding no4
returns-then-is_zero-2 c =
    let case = c.args.case.now in
    let e : eqb (vpub_new_of case) 0 ≡ true = ap (λ (v : ℕ). eqb v 0) (sym c.vpub_new.ensures) ∙ sym c.is_zero-2.ensures ∙ c.if-is_zero-2.true in
    one_fails (both_public (vpub_old_of case) (vpub_new_of case)) 4 0 (old_alone (vpub_old_of case) (vpub_new_of case) e)

pub returns : goal.returns
unfolding no4
returns c =
    let case = c.args.case.now in
    let e : eqb (vpub_old_of case) 0 ≡ false = ap (λ (v : ℕ). eqb v 0) (sym c.vpub_old.ensures) ∙ sym c.is_zero.ensures ∙ c.if-is_zero.false in
    let f : eqb (vpub_new_of case) 0 ≡ false = ap (λ (v : ℕ). eqb v 0) (sym c.vpub_new.ensures) ∙ sym c.is_zero-2.ensures ∙ c.if-is_zero-2.false in
    one_holds (both_public (vpub_old_of case) (vpub_new_of case)) 4 0 (both (vpub_old_of case) (vpub_new_of case) e f)
