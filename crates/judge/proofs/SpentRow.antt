-- The row that an answer of the judge carries: with 8 that of the nullifier which its place names, with any other number 0.
-- Assumes nothing.
use Prim.Native.Nat.{ℕ, ◌<◌}
use mathlib.Core.Path.{◌≡◌, refl, sym, ap, ◌∙◌}
use mathlib.Core.Bool.{true, false}
use mathlib.Core.List.{List}
use native.Mathlib.Omega.{arith}
use Rattle.refusals.specs.declared.Answer.{Answer}
use Rattle.refusals.specs.Rules.{answer, rules_in, first}
use Rattle.refusals.proofs.RuleLaws.{by_test}
use Rattle.refusals.proofs.AnswerRows.{only_with, others_zero, only, only_first, without_rows, no_row}
use Rattle.casefile.specs.Fields.{has_length, nullifier_of}
use Rattle.statement.specs.CaseRefusals.{no1, no4, no5, no7, no9, no10, no11, no12, no13, no14, no15, no16, derived_refusals, claim_refusals, witness_refusals, case_refusals}
use Rattle.ledger.specs.declared.Ledger.{Ledger}
use Rattle.ledger.specs.Rows.{among, row_number_of}
use Rattle.ledger.specs.Ledgers.{most_nullifiers, spent_rows, damaged, no2, no3, no6, no8, no17}
use Rattle.ledger.proofs.Soundness.{Sound, undamaged}
use Rattle.judge.specs.Judging.{judge_refusals, ledgers_own, answer_of}
use Rattle.judge.proofs.Halves.{answer_lower}
use Rattle.judge.proofs.Outcomes.{length_decides}
use Rattle.judge.proofs.LedgerAnswers.{holds_lower, row_low}

module _ (c t r : List ℕ) (l : Ledger) where
  -- OTHER NUMBERS
  only_eight : only_with 8 (judge_refusals c t r l) ≡ true
  unfolding judge_refusals rules_in only_with no1 no2 no3 no4 no5 no6 no7 no8 no9 no10 no11 no12 no13 no14 no15 no16 no17
  only_eight = refl

  pub other_rows : ((answer_of c t r l).number ≡ 8 → ⊥) → (answer_of c t r l).row.0 ≡ 0
  unfolding answer_of
  other_rows h = others_zero 8 (judge_refusals c t r l) only_eight h

  -- 8: the ledger is sound, and the rule of number 8 that applies is the first of the two
  damage_decides : has_length c ≡ true → damaged t r l ≡ true → answer 2 0 ≡ answer_of c t r l
  unfolding answer_of judge_refusals rules_in no1 no2 first
  damage_decides h k = rw (h, k)

  eights : only 8 (judge_refusals c t r l) ≡ no8 t l (nullifier_of 1 c) (nullifier_of 2 c)
  unfolding judge_refusals rules_in only no1 no2 no3 no4 no5 no6 no7 no8 no9 no10 no11 no12 no13 no14 no15 no16 no17
  eights = refl

  module _ (h : (answer_of c t r l).number ≡ 8) where
    other_number : (n : ℕ) → (n < 8) → answer n 0 ≡ answer_of c t r l → ⊥
    other_number n b e = let q : n ≡ 8 = ap (λ (a : Answer). a.number) e ∙ h in absurd (omega arith)

    pub eight_sound : Sound t r l
    eight_sound =
        undamaged t r l
        (by_test (damaged t r l)
        (λ e. absurd (by_test (has_length c) (λ f. other_number 2 (omega arith) (damage_decides f e)) (λ f. other_number 1 (omega arith) (length_decides c t r l f))))
        (λ e. e))

    by_eights : answer_of c t r l ≡ first (no8 t l (nullifier_of 1 c) (nullifier_of 2 c))
    unfolding answer_of
    by_eights = only_first 8 (judge_refusals c t r l) (λ e. absurd (omega arith)) h ∙ ap first eights

  -- what a refusal of number 8 says
  pub record NamesRow (a : Answer) : Type 0 where
    pub spent : among (nullifier_of a.place c) (spent_rows t l) ≡ true
    pub row : a.row.0 ≡ row_number_of (nullifier_of a.place c) (spent_rows t l)

  in_first : among (nullifier_of 1 c) (spent_rows t l) ≡ true → NamesRow (first (no8 t l (nullifier_of 1 c) (nullifier_of 2 c)))
  unfolding no8 first
  in_first e = rw e (record { spent = e; row = refl })

  in_second : among (nullifier_of 1 c) (spent_rows t l) ≡ false → among (nullifier_of 2 c) (spent_rows t l) ≡ true
      → NamesRow (first (no8 t l (nullifier_of 1 c) (nullifier_of 2 c)))
  unfolding no8 first
  in_second e f = rw (e, f) (record { spent = f; row = refl })

  in_none : among (nullifier_of 1 c) (spent_rows t l) ≡ false → among (nullifier_of 2 c) (spent_rows t l) ≡ false
      → (first (no8 t l (nullifier_of 1 c) (nullifier_of 2 c))).number ≡ 0
  unfolding no8 first
  in_none e f = rw (e, f)

  pub names_row : (answer_of c t r l).number ≡ 8 → NamesRow (answer_of c t r l)
  names_row h =
      rw (by_eights h)
      (by_test (among (nullifier_of 1 c) (spent_rows t l))
      in_first
      (λ e. by_test (among (nullifier_of 2 c) (spent_rows t l))
      (in_second e)
      (λ f. let q : ◌≡◌ {A = ℕ} 0 8 = sym (in_none e f) ∙ ap (λ (a : Answer). a.number) (sym (by_eights h)) ∙ h in absurd (omega arith))))

  -- A ROW is one of those that a table can have: the case alone has none to give
  case_row : (first (case_refusals c)).row.0 ≡ 0
  unfolding without_rows rules_in case_refusals witness_refusals claim_refusals derived_refusals no1 no4 no5 no7 no9 no10 no11 no12 no13 no14 no15 no16
  case_row = no_row (case_refusals c) refl

  pub row_within : (answer_of c t r l).row.0 < most_nullifiers
  row_within =
      rw (answer_lower c t r l)
      (holds_lower (λ (a : Answer). a.row.0 < most_nullifiers) (first (case_refusals c)) (first (ledgers_own c t r l)) (omega (arith, case_row)) (row_low c t r l))
