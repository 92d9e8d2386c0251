-- The refusals are asked one after the other, 4 and 5 at once, each of the case that the record holds; each return is that of the first that applies.
use mathlib.Core.Bool.{true}
use mathlib.Core.Path.{◌≡◌, refl, ap, ◌∙◌}
use mathlib.Core.List.{List, [], ◌∷◌}
use Prim.Native.Nat.{ℕ}
use Rattle.refusals.specs.declared.Answer.{Answer}
use Rattle.refusals.specs.Rules.{Rule, first, rules_in, accepted, numbered}
use Rattle.refusals.proofs.RuleLaws.{refused_by, passed_by, run_refused_by, run_passed_by}
use Rattle.statement.specs.CaseRefusals.{no4, no5, no7, no9, claim_refusals}
use Rattle.slices.specs.Records.{case_in}
use Rattle.slices.specs.Steps.{held10, alone_refusals}
use Rattle.slices.proofs.alone.Goals as goal

abbrev public : List ℕ → List (List Rule)
public x = no4 x ∷ no5 x ∷ []

public_numbered : (x : List ℕ) → numbered (rules_in (public x)) ≡ true
unfolding rules_in numbered no4 no5
public_numbered x = refl

-- what is asked of the part of the record is asked of the case
asked : (rows : List ℕ → List Rule) (a : Answer) (part b : List ℕ) → part ≡ case_in b → a ≡ first (rows part) → a ≡ first (rows (case_in b))
asked rows a part b q e = e ∙ ap (λ (x : List ℕ). first (rows x)) q

abbrev values : List ℕ → List Rule
values x = rules_in (public x)

abbrev claims : List ℕ → List Rule
claims x = rules_in (claim_refusals x)

-- what is left decides, once 4 and 5 have passed
past_5 : (b : List ℕ) (part : List ℕ) (gs : List (List Rule)) (a : Answer) → part ≡ case_in b → accepted ≡ first (rules_in (public part)) → a ≡ first (rules_in gs)
    → a ≡ first (rules_in (no4 (case_in b) ∷ no5 (case_in b) ∷ gs))
past_5 b part gs a q e h = run_passed_by (public (case_in b)) gs a (public_numbered (case_in b)) (asked values accepted part b q e) h

pub returns-in_err-public_values : goal.returns-in_err-public_values
unfolding alone_refusals
returns-in_err-public_values c =
    let b = c.args.judgement.now in
    run_refused_by (public (case_in b)) (no7 (case_in b) ∷ no9 (case_in b) ∷ held10 b ∷ claim_refusals (case_in b)) _ _
    (asked values _ _ b c.case_in-case.ensures c.in_err-public_values.ensures) c.from_residual.ensures

pub returns-in_err-distinct : goal.returns-in_err-distinct
unfolding alone_refusals
returns-in_err-distinct c =
    let b = c.args.judgement.now in
    past_5 b _ _ _ c.case_in-case.ensures c.in_ok-public_values.ensures
    (refused_by _ _ _ _ (asked no7 _ _ b c.case_in-case.ensures c.in_err-distinct.ensures) c.from_residual-in_err-distinct.ensures)

pub returns-in_err-ranges : goal.returns-in_err-ranges
unfolding alone_refusals numbered no7
returns-in_err-ranges c =
    let b = c.args.judgement.now in
    past_5 b _ _ _ c.case_in-case.ensures c.in_ok-public_values.ensures
    (passed_by _ _ _ refl (asked no7 _ _ b c.case_in-case.ensures c.in_ok-distinct.ensures)
    (refused_by _ _ _ _ (asked no9 _ _ b c.case_in-case.ensures c.in_err-ranges.ensures) c.from_residual-in_err-ranges.ensures))

pub returns-in_err-ends : goal.returns-in_err-ends
unfolding alone_refusals numbered no7 no9
returns-in_err-ends c =
    let b = c.args.judgement.now in
    past_5 b _ _ _ c.case_in-case.ensures c.in_ok-public_values.ensures
    (passed_by _ _ _ refl (asked no7 _ _ b c.case_in-case.ensures c.in_ok-distinct.ensures)
    (passed_by _ _ _ refl (asked no9 _ _ b c.case_in-case.ensures c.in_ok-ranges.ensures)
    (refused_by _ _ _ _ c.in_err-ends.ensures c.from_residual-in_err-ends.ensures)))

pub returns : goal.returns
unfolding alone_refusals numbered no7 no9 held10
returns c =
    let b = c.args.judgement.now in
    past_5 b _ _ _ c.case_in-case.ensures c.in_ok-public_values.ensures
    (passed_by _ _ _ refl (asked no7 _ _ b c.case_in-case.ensures c.in_ok-distinct.ensures)
    (passed_by _ _ _ refl (asked no9 _ _ b c.case_in-case.ensures c.in_ok-ranges.ensures)
    (passed_by _ _ _ refl c.in_ok-ends.ensures (asked claims _ _ b c.case_in-case.ensures c.claims.ensures))))
