use mathlib.Core.Path.{◌≡◌, sym, ap, ◌∙◌}
use Prim.Native.Nat.{ℕ}
use mathlib.Core.Bool.{true}
use lib.Dec.{eqb}
use Rattle.units.specs.Pairs.{number_of}
use Rattle.casefile.specs.Fields.{old_value_of}
use Rattle.statement.specs.CaseRefusals.{ends_elsewhere, strays_of}
use Rattle.statement.proofs.strays.Goals as goal

pub returns-then-is_zero : goal.returns-then-is_zero
unfolding strays_of ends_elsewhere
returns-then-is_zero c =
    let a = c.args in
    let e : eqb (old_value_of (number_of a.i) a.case.now) 0 ≡ true = ap (λ (v : ℕ). eqb v 0) (sym c.old_value.ensures) ∙ sym c.is_zero.ensures ∙ c.if-is_zero.true in
    rw e

pub returns : goal.returns
unfolding strays_of
returns c = cc
