-- One refusal after the other, tags and rhos over the same hSig: where one is given, it is the answer, and where it is not, the rest of the list decides.
use mathlib.Core.Path.{◌≡◌, refl, ap, ◌∙◌}
use mathlib.Core.List.{List}
use Prim.Native.Nat.{ℕ}
use Rattle.refusals.specs.Rules.{first, numbered}
use Rattle.refusals.proofs.RuleLaws.{refused_by, passed_by, last_group}
use Rattle.statement.specs.declared.Claim.{Claim}
use Rattle.statement.specs.declared.Claim.TheVariants.{Tag, Rho}
use Rattle.statement.specs.Claims.{pair_refusals}
use Rattle.statement.specs.CaseRefusals.{h_sig_of, no12, no13, no14, no15, no16, derived_refusals}
use Rattle.statement.proofs.derived.Goals as goal

-- the pair's answer, whichever name hSig has
over : (claim : Claim) (case h : List ℕ) → h ≡ h_sig_of case → first (pair_refusals claim h case) ≡ first (pair_refusals claim (h_sig_of case) case)
over claim case h e = ap (λ (x : List ℕ). first (pair_refusals claim x case)) e

pub returns-in_err-pair : goal.returns-in_err-pair
unfolding derived_refusals no12
returns-in_err-pair c = refused_by _ _ _ _ c.in_err-pair.ensures c.from_residual.ensures

pub returns-in_err-pair-2 : goal.returns-in_err-pair-2
unfolding derived_refusals numbered no12 no13
returns-in_err-pair-2 c = passed_by _ _ _ refl c.in_ok-pair.ensures (refused_by _ _ _ _ c.in_err-pair-2.ensures c.from_residual-in_err-pair-2.ensures)

pub returns-in_err-pair-3 : goal.returns-in_err-pair-3
unfolding derived_refusals numbered no12 no13 no14
returns-in_err-pair-3 c =
    passed_by _ _ _ refl c.in_ok-pair.ensures (passed_by _ _ _ refl c.in_ok-pair-2.ensures
    (refused_by _ _ _ _ (c.in_err-pair-3.ensures ∙ over Tag _ _ c.h_sig-h.ensures) c.from_residual-in_err-pair-3.ensures))

pub returns-in_err-pair-4 : goal.returns-in_err-pair-4
unfolding derived_refusals numbered no12 no13 no14 no15
returns-in_err-pair-4 c =
    passed_by _ _ _ refl c.in_ok-pair.ensures (passed_by _ _ _ refl c.in_ok-pair-2.ensures
    (passed_by _ _ _ refl (c.in_ok-pair-3.ensures ∙ over Tag _ _ c.h_sig-h.ensures)
    (refused_by _ _ _ _ (c.in_err-pair-4.ensures ∙ over Rho _ _ c.h_sig-h.ensures) c.from_residual-in_err-pair-4.ensures)))

pub returns : goal.returns
unfolding derived_refusals numbered no12 no13 no14 no15 no16
returns c =
    passed_by _ _ _ refl c.in_ok-pair.ensures (passed_by _ _ _ refl c.in_ok-pair-2.ensures
    (passed_by _ _ _ refl (c.in_ok-pair-3.ensures ∙ over Tag _ _ c.h_sig-h.ensures)
    (passed_by _ _ _ refl (c.in_ok-pair-4.ensures ∙ over Rho _ _ c.h_sig-h.ensures) (c.pair-5.ensures ∙ last_group (no16 c.args.case.now)))))
