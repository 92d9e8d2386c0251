-- What scanning a bag gives, by what its seal says.
-- Assumes nothing.
use Prim.Native.Nat.{ℕ}
use mathlib.Core.Path.{◌≡◌, refl, sym, ap}
use mathlib.Core.Bool.{true, false}
use mathlib.Core.List.{List, []}
use lib.Ieee.{Float}
use Rattle.refusals.specs.declared.Answer.{Answer}
use Rattle.refusals.specs.Rules.{accepted, is_accepted, not_given}
use Rattle.refusals.proofs.RuleLaws.{by_test}
use Rattle.seal.specs.declared.Calibration.{Calibration}
use Rattle.std.specs.Prelude.{Ok, Err}
use Rattle.seal.specs.declared.Reading.{Reading}
use Rattle.seal.specs.declared.SealRefusal.{SealRefusal}
use Rattle.seal.specs.declared.SealRefusal.TheVariants.{Broken, BadLimit, NotFinite, Outside}
use Rattle.seal.specs.Pull.{judge_of, answer_for}
use Rattle.ledger.specs.declared.Ledger.{Ledger}
use Rattle.bag.specs.Contents.{laid_out, cases_of}
use Rattle.bag.specs.SealAndCases.{seal_in, layout_answer, gate_answer, judged_cases, SoFar, so_far, judged_all, judged_from, all_judged, report, scanned_of, table_after_bag}

-- only a bag that keeps to the layout has a seal
pub has_layout : (b : List ℕ) (reading : Reading) → seal_in b ≡ Ok reading → laid_out b ≡ true
unfolding seal_in
has_layout b reading h = by_test (laid_out b) (λ e. e) (λ e. cc)

-- a refusal is no acceptance
pub never_passed : (refusal : SealRefusal) → is_accepted (answer_for refusal) ≡ false
never_passed = elim [ Broken ↦ refl | BadLimit ↦ refl | NotFinite ↦ refl | Outside ↦ refl ]

module _ (k : Calibration) (b t r : List ℕ) (l : Ledger) where
  -- the scan gives these two answers, and what the cases' answers are and leave
  pub record Gives (layout seal : Answer) (h : SoFar) : Type 0 where
    pub result : report layout seal h.answers h.ledger ≡ scanned_of k b t r l
    pub table : h.table ≡ table_after_bag k b t r l

  gives : (layout seal : Answer) (h : SoFar) → layout_answer (seal_in b) ≡ layout → gate_answer k (seal_in b) ≡ seal → all_judged k b t r l ≡ h → Gives layout seal h
  unfolding scanned_of table_after_bag
  gives layout seal h p q e = record { result = rw (sym p, sym q, sym e); table = sym (ap (λ (x : SoFar). x.table) e) }

  pub broken : (refusal : SealRefusal) → seal_in b ≡ Err refusal → Gives (answer_for refusal) not_given (so_far [] t l)
  unfolding all_judged judged_cases judged_all
  broken refusal h = gives (answer_for refusal) not_given (so_far [] t l) (rw h) (rw h) (rw (h, never_passed refusal))

  module _ (reading : Reading) (h : seal_in b ≡ Ok reading) where
    pub stopped : (refusal : SealRefusal) → judge_of k reading.gate reading.raw ≡ Err refusal → Gives accepted (answer_for refusal) (so_far [] t l)
    unfolding all_judged judged_cases judged_all
    stopped refusal e = gives accepted (answer_for refusal) (so_far [] t l) (rw h) (rw (h, e)) (rw (h, e, never_passed refusal))

    pub passed : (p : Float) → judge_of k reading.gate reading.raw ≡ Ok p → Gives accepted accepted (judged_from t r l (cases_of b))
    unfolding all_judged judged_cases
    passed p e = gives accepted accepted (judged_from t r l (cases_of b)) (rw h) (rw (h, e)) (rw (h, e))
