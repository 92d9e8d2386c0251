use mathlib.Core.Path.{◌≡◌, sym, ap, ◌∙◌}
use Prim.Native.Nat.{ℕ}
use mathlib.Core.Bool.{Bool, true, false, not}
use lib.Dec.{leb}
use Rattle.units.specs.Limits.{max_money}
use Rattle.casefile.specs.Fields.{vpub_old_of, vpub_new_of}
use Rattle.statement.specs.CaseRefusals.{no5, above_money}
use Rattle.refusals.specs.Rules.{first}
use Rattle.statement.proofs.TestLaws.{not_leb}
use Rattle.statement.proofs.public_amounts.Goals as goal

-- the test on an amount that was read
above : (value read : ℕ) (b : Bool) → value ≡ read → b ≡ leb read max_money → above_money value ≡ not b
unfolding above_money
above value read b e q = sym (not_leb value max_money) ∙ ap (λ (v : ℕ). not (leb v max_money)) e ∙ ap not (sym q)

pub returns-then-not-is_money : goal.returns-then-not-is_money
unfolding no5 first
returns-then-not-is_money c =
    let case = c.args.case.now in
    let e : above_money (vpub_old_of case) ≡ true = above (vpub_old_of case) _ _ (sym c.vpub_old.ensures) c.is_money.ensures ∙ (ap not c.if-not-is_money.true) in
    rw e

pub returns-then-not-is_money-2 : goal.returns-then-not-is_money-2
unfolding no5 first
returns-then-not-is_money-2 c =
    let case = c.args.case.now in
    let e : above_money (vpub_old_of case) ≡ false = above (vpub_old_of case) _ _ (sym c.vpub_old.ensures) c.is_money.ensures ∙ (ap not c.if-not-is_money.false) in
    let f : above_money (vpub_new_of case) ≡ true = above (vpub_new_of case) _ _ (sym c.vpub_new.ensures) c.is_money-2.ensures ∙ (ap not c.if-not-is_money-2.true) in
    rw (e, f)

pub returns : goal.returns
unfolding no5 first
returns c =
    let case = c.args.case.now in
    let e : above_money (vpub_old_of case) ≡ false = above (vpub_old_of case) _ _ (sym c.vpub_old.ensures) c.is_money.ensures ∙ (ap not c.if-not-is_money.false) in
    let f : above_money (vpub_new_of case) ≡ false = above (vpub_new_of case) _ _ (sym c.vpub_new.ensures) c.is_money-2.ensures ∙ (ap not c.if-not-is_money-2.false) in
    rw (e, f)
