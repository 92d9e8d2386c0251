-- The two returns: the sums differ, or they are equal and the ceiling decides.
use mathlib.Core.Path.{◌≡◌, ap, ap₂, ◌∙◌}
use Prim.Native.Nat.{ℕ, ◌+◌, ◌-◌, ◌^◌}
use mathlib.Core.Bool.{true, not}
use mathlib.Core.List.{List}
use native.Mathlib.Omega.{arith}
use lib.Dec.{eqb, ltb}
use borrow.Author.Tests.{eq-eqb, ne_eqb}
use Rattle.casefile.specs.Fields.{vpub_old_of, vpub_new_of, old_value_of, new_value_of}
use Rattle.statement.specs.CaseRefusals.{unbalanced_of, unbalanced}
use Rattle.statement.proofs.unbalanced.Goals as goal

abbrev value_in : List ℕ → ℕ
value_in c = vpub_old_of c + old_value_of 1 c + old_value_of 2 c

abbrev value_out : List ℕ → ℕ
value_out c = vpub_new_of c + new_value_of 1 c + new_value_of 2 c

-- of unequal sides nothing more is asked, of equal ones the ceiling
unequal : (c : List ℕ) → (value_in c ≡ value_out c → ⊥) → true ≡ unbalanced_of c
unfolding unbalanced_of unbalanced
unequal c n =
    let e = ne_eqb (value_in c) (value_out c) n in
    rw e

equal : (c : List ℕ) → value_in c ≡ value_out c → ltb (2 ^ 64 - 1) (value_in c) ≡ unbalanced_of c
unfolding unbalanced_of unbalanced
equal c h =
    let e = eq-eqb (value_in c) (value_out c) h in
    rw e

pub returns-then-paid-made : goal.returns-then-paid-made
returns-then-paid-made c =
    let differ : not (eqb c.sum-paid.result c.sum-made.result) ≡ true = ap not (ne_eqb _ _ c.if-paid-made.true) in
    differ ∙ unequal c.args.case.now (λ e. c.if-paid-made.true (omega (arith, e)))

pub returns-else-paid-made : goal.returns-else-paid-made
returns-else-paid-made c =
    let case = c.args.case.now in
    let paid : c.sum-paid.result ≡ value_in case = omega arith in
    let e : value_in case ≡ value_out case = omega (arith, c.if-paid-made.false) in
    ap₂ ltb c.from.ensures paid ∙ equal case e
