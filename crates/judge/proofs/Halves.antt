-- The judge's table is made of the case's own and the ledger's: its answer is the lower of theirs. And its parts: before the first hash, the witness, the pool.
-- Assumes nothing.
use Prim.Native.Nat.{ℕ}
use mathlib.Core.Path.{◌≡◌, refl, ap₂, ◌∙◌}
use mathlib.Core.Bool.{Bool, true, false, not, ◌||◌}
use mathlib.Core.List.{List, [], ◌∷◌, ◌++◌}
use lib.Dec.{eqb}
use Rattle.refusals.specs.Rules.{Rule, rules_in, first, numbered, lower}
use Rattle.refusals.proofs.TwoTables.{never_falls, those, first_lower}
use Rattle.casefile.specs.Fields.{vpub_old_of, vpub_new_of}
use Rattle.statement.specs.CaseRefusals.{no1, no4, no5, no7, no9, no10, no11, no12, no13, no14, no15, no16, public_refusals, derived_refusals, claim_refusals, witness_refusals, case_refusals}
use Rattle.ledger.specs.declared.Ledger.{Ledger}
use Rattle.ledger.specs.Ledgers.{no2, no3, no6, no8, no17, ledger_refusals}
use Rattle.judge.specs.Judging.{judge_refusals, front_refusals, ledgers_own, middle_refusals, answer_of}

-- the numbers that a ledger gives are 2, 3, 6, 8 and 17; all others are the case's
unfoldable of_case : ℕ → Bool
of_case n = not (eqb n 2 || eqb n 3 || eqb n 6 || eqb n 8 || eqb n 17)

-- what the pool refuses of a case
abbrev pub pool_refusals : List ℕ → Ledger → List Rule
pool_refusals c l = no17 l.pool.0 (vpub_old_of c) (vpub_new_of c)

module _ (c t r : List ℕ) (l : Ledger) where
  pub numbers : numbered (judge_refusals c t r l) ≡ true
  unfolding judge_refusals rules_in numbered no1 no2 no3 no4 no5 no6 no7 no8 no9 no10 no11 no12 no13 no14 no15 no16 no17
  numbers = refl

  rises : never_falls (judge_refusals c t r l) ≡ true
  unfolding judge_refusals rules_in never_falls no1 no2 no3 no4 no5 no6 no7 no8 no9 no10 no11 no12 no13 no14 no15 no16 no17
  rises = refl

  own_rows : those of_case true (judge_refusals c t r l) ≡ case_refusals c
  unfolding judge_refusals case_refusals witness_refusals claim_refusals derived_refusals rules_in those of_case no1 no2 no3 no4 no5 no6 no7 no8 no9 no10 no11 no12 no13 no14 no15 no16 no17
  own_rows = refl

  ledger_rows : those of_case false (judge_refusals c t r l) ≡ ledgers_own c t r l
  unfolding judge_refusals ledger_refusals rules_in those of_case no1 no2 no3 no4 no5 no6 no7 no8 no9 no10 no11 no12 no13 no14 no15 no16 no17
  ledger_rows = refl

  -- THE LAW of the two answers
  pub answer_lower : answer_of c t r l ≡ lower (first (case_refusals c)) (first (ledgers_own c t r l))
  unfolding answer_of
  answer_lower =
      first_lower of_case (judge_refusals c t r l) rises numbers ∙ ap₂ (λ (a b : List Rule). lower (first a) (first b)) own_rows ledger_rows

  -- the half that needs no hash
  abbrev front : List Rule
  front = rules_in (front_refusals c t r l)

  pub front_numbers : numbered front ≡ true
  unfolding front_refusals rules_in numbered no1 no2 no3 no4 no5 no6 no7 no8
  front_numbers = refl

  front_rises : never_falls front ≡ true
  unfolding front_refusals rules_in never_falls no1 no2 no3 no4 no5 no6 no7 no8
  front_rises = refl

  front_own : those of_case true front ≡ rules_in (public_refusals c)
  unfolding front_refusals public_refusals rules_in those of_case no1 no2 no3 no4 no5 no6 no7 no8
  front_own = refl

  -- what the ledger says in it
  abbrev pub ledgers_front : List (List Rule)
  ledgers_front = no2 t r l ∷ no3 t l ∷ middle_refusals c t r l

  front_ledger : those of_case false front ≡ rules_in ledgers_front
  unfolding front_refusals middle_refusals rules_in those of_case no1 no2 no3 no4 no5 no6 no7 no8
  front_ledger = refl

  pub front_lower : first front ≡ lower (first (rules_in (public_refusals c))) (first (rules_in ledgers_front))
  front_lower = first_lower of_case front front_rises front_numbers ∙ ap₂ (λ (a b : List Rule). lower (first a) (first b)) front_own front_ledger

  -- then the witness, and the pool last
  pub behind_front : judge_refusals c t r l ≡ rules_in (front_refusals c t r l ++ (witness_refusals c ++ (pool_refusals c l ∷ [])))
  unfolding judge_refusals front_refusals witness_refusals claim_refusals derived_refusals
  behind_front = refl

  pub witness_numbers : numbered (rules_in (witness_refusals c)) ≡ true
  unfolding rules_in numbered witness_refusals claim_refusals derived_refusals no9 no10 no11 no12 no13 no14 no15 no16
  witness_numbers = refl
