-- A case settled by an answer own that was found before. Where own is what the case alone is answered, the answer, the ledger and the table are the judge's. Whatever
-- own is, number, place and row keep their bounds, and nothing of the case counts but its public part.
-- Assumes nothing.
use Prim.Native.Nat.{ℕ, ◌<◌, ◌≤◌}
use mathlib.Core.Path.{◌≡◌, sym, ap, ◌∙◌}
use mathlib.Core.List.{List}
use native.Mathlib.Omega.{arith}
use borrow.Author.Tests.{eqb-true}
use Rattle.octets.specs.Parts.{same}
use Rattle.refusals.specs.declared.Answer.{Answer}
use Rattle.refusals.specs.Rules.{answer, is_accepted, first, lower}
use Rattle.refusals.proofs.RuleLaws.{by_test, one_fails}
use Rattle.casefile.specs.Fields.{vpub_old_of, vpub_new_of, anchor_of, nullifier_of, commitment_of}
use Rattle.statement.specs.CaseRefusals.{no7, case_refusals}
use Rattle.statement.proofs.Clauses.{unlike, accepted_clauses, clauses_accepted}
use Rattle.ledger.specs.declared.Ledger.{Ledger}
use Rattle.ledger.specs.Ledgers.{most_nullifiers}
use Rattle.judge.specs.Judging.{ledgers_own, ledger_by, table_by, answer_of, ledger_after_case, table_after_case}
use Rattle.judge.specs.Settling.{own_counted, settled_answer, ledger_after_settling, table_after_settling}
use Rattle.judge.proofs.Halves.{answer_lower}
use Rattle.judge.proofs.LedgerAnswers.{chosen, holds_lower, OfEach, of_first, number_low, place_low, row_low}

-- AS THE JUDGE ANSWERS. All of that answer counts: the nullifiers of a case that is accepted alone differ
counted_whole : (c : List ℕ) → own_counted (first (case_refusals c)) c ≡ first (case_refusals c)
unfolding own_counted no7
counted_whole c =
    by_test (is_accepted (first (case_refusals c)))
    (λ e. let k = accepted_clauses c (eqb-true (first (case_refusals c)).number 0 e) in
    rw e (sym (one_fails (same (nullifier_of 1 c) (nullifier_of 2 c)) 7 0 (unlike.1 k.distinct)) ∙ sym (clauses_accepted c k)))
    (λ e. rw e)

module _ (c t r : List ℕ) (l : Ledger) where
  pub settled_as_judged : settled_answer (first (case_refusals c)) c t r l ≡ answer_of c t r l
  unfolding settled_answer
  settled_as_judged = ap (λ (a : Answer). lower a (first (ledgers_own c t r l))) (counted_whole c) ∙ sym (answer_lower c t r l)

  pub ledger_as_judged : ledger_after_settling (first (case_refusals c)) c t r l ≡ ledger_after_case c t r l
  unfolding ledger_after_settling ledger_after_case
  ledger_as_judged = ap (λ (a : Answer). ledger_by a c l) settled_as_judged

  pub table_as_judged : table_after_settling (first (case_refusals c)) c t r l ≡ table_after_case c t r l
  unfolding table_after_settling table_after_case
  table_as_judged = ap (λ (a : Answer). table_by a c t l) settled_as_judged

-- BOUNDS: what holds of own, of every answer up to 17 with place and row 0, and of the ledger's own answer holds of the answer that is given
module _ (own : Answer) (c t r : List ℕ) (l : Ledger) where
  holds_settled : (P : Answer → Type 0) → P own → ((n : ℕ) → n ≤ 17 → P (answer n 0)) → P (first (ledgers_own c t r l)) → P (settled_answer own c t r l)
  unfolding settled_answer own_counted OfEach no7
  holds_settled P o plain p =
      holds_lower P (own_counted own c) (first (ledgers_own c t r l))
      (chosen P (is_accepted own) (λ e. of_first P (no7 c) (λ f. plain 7 (omega arith), plain 0 (omega arith))) (λ e. o)) p

  pub settled_number : own.number ≤ 17 → (settled_answer own c t r l).number ≤ 17
  settled_number h = holds_settled (λ (a : Answer). a.number ≤ 17) h (λ n k. k) (number_low c t r l)

  pub settled_place : own.place < 256 → (settled_answer own c t r l).place < 256
  settled_place h = holds_settled (λ (a : Answer). a.place < 256) h (λ n k. omega arith) (place_low c t r l)

  pub settled_row : own.row.0 < most_nullifiers → (settled_answer own c t r l).row.0 < most_nullifiers
  settled_row h = holds_settled (λ (a : Answer). a.row.0 < most_nullifiers) h (λ n k. omega arith) (row_low c t r l)

-- THE PUBLIC PART: two cases that agree in what the ledger asks about and enters
pub record SamePublic (c d : List ℕ) : Type 0 where
  pub anchor : anchor_of c ≡ anchor_of d
  pub nullifier_1 : nullifier_of 1 c ≡ nullifier_of 1 d
  pub nullifier_2 : nullifier_of 2 c ≡ nullifier_of 2 d
  pub commitment_1 : commitment_of 1 c ≡ commitment_of 1 d
  pub commitment_2 : commitment_of 2 c ≡ commitment_of 2 d
  pub old : vpub_old_of c ≡ vpub_old_of d
  pub new : vpub_new_of c ≡ vpub_new_of d

module _ (own : Answer) (c d t r : List ℕ) (l : Ledger) (s : SamePublic c d) where
  pub settled_public : settled_answer own c t r l ≡ settled_answer own d t r l
  unfolding settled_answer own_counted no7
  settled_public = rw (s.anchor, s.nullifier_1, s.nullifier_2, s.old, s.new)

  pub ledger_public : ledger_after_settling own c t r l ≡ ledger_after_settling own d t r l
  unfolding ledger_after_settling
  ledger_public = rw (settled_public, s.commitment_1, s.commitment_2, s.old, s.new)

  pub table_public : table_after_settling own c t r l ≡ table_after_settling own d t r l
  unfolding table_after_settling
  table_public = rw (settled_public, s.nullifier_1, s.nullifier_2)
