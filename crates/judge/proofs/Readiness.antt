-- A case that is accepted can be entered, whether it was judged or settled.
-- Assumes nothing.
use Prim.Native.Nat.{ℕ, ◌+◌}
use mathlib.Core.Path.{◌≡◌, refl, sym, ap, ◌∙◌}
use mathlib.Core.Bool.{false}
use mathlib.Core.List.{List}
use native.Mathlib.Omega.{arith}
use borrow.Author.Tests.{eqb-false, eq-eqb, ltb-false, not-false}
use lib.Dec.{ltb}
use lib.ListN.{length}
use Rattle.octets.specs.Parts.{same}
use Rattle.refusals.specs.declared.Answer.{Answer}
use Rattle.refusals.specs.Rules.{None, rules_in, first, numbered, is_accepted}
use Rattle.refusals.proofs.RuleLaws.{by_test, first_none, one_passed}
use Rattle.refusals.proofs.TwoTables.{lower_accepts}
use Rattle.casefile.specs.Fields.{vpub_old_of, vpub_new_of, nullifier_of}
use Rattle.statement.specs.CaseRefusals.{no7, case_refusals}
use Rattle.statement.proofs.Clauses.{unlike, accepted_clauses}
use Rattle.ledger.specs.declared.Ledger.{Ledger}
use Rattle.ledger.specs.Rows.{among}
use Rattle.ledger.specs.Ledgers.{most_nullifiers, room_in, spent_rows, outside, damaged, no2, no3, no6, no8, no17, ledger_refusals, Ready}
use Rattle.ledger.proofs.Soundness.{undamaged, among_found}
use Rattle.judge.specs.Judging.{ledgers_own, answer_of}
use Rattle.judge.specs.Settling.{own_counted, settled_answer}
use Rattle.judge.proofs.Halves.{answer_lower}

-- what the ledger's own table says of it
record Passed (c t r : List ℕ) (l : Ledger) : Type 0 where
  sound : damaged t r l ≡ false
  roomy : ltb (room_in most_nullifiers (length t)) (l.nullifiers + 2) ≡ false
  first_new : among (nullifier_of 1 c) (spent_rows t l) ≡ false
  second_new : among (nullifier_of 2 c) (spent_rows t l) ≡ false
  inside : outside l.pool.0 (vpub_old_of c) (vpub_new_of c) ≡ false

passed : (c t r : List ℕ) (l : Ledger) → (first (ledgers_own c t r l)).number ≡ 0 → Passed c t r l
unfolding None ledger_refusals rules_in numbered no2 no3 no6 no8 no17
passed c t r l h =
    let n = first_none (ledgers_own c t r l) refl h in
    record {
      sound = n.0;
      roomy = n.1.0;
      first_new = n.1.1.1.0;
      second_new = n.1.1.1.1.0;
      inside = n.1.1.1.1.1.0;
    }

-- a ledger that passes a case whose nullifiers differ can take it in
taken_in : (c t r : List ℕ) (l : Ledger) → (first (ledgers_own c t r l)).number ≡ 0 → same (nullifier_of 1 c) (nullifier_of 2 c) ≡ false
    → Ready t l (nullifier_of 1 c) (nullifier_of 2 c) (vpub_old_of c) (vpub_new_of c)
unfolding spent_rows
taken_in c t r l h d =
    let p = passed c t r l h in
    let s = undamaged t r l p.sound in
    record {
      room = ltb-false (room_in most_nullifiers (length t)) (l.nullifiers + 2) p.roomy;
      rises = s.rises;
      fresh =
          record {
            differ = d;
            gap_a = not-false _ (sym (among_found (nullifier_of 1 c) (spent_rows t l) s.rises) ∙ p.first_new);
            gap_b = not-false _ (sym (among_found (nullifier_of 2 c) (spent_rows t l) s.rises) ∙ p.second_new);
          };
      pool = p.inside;
    }

-- JUDGED
pub ready : (c t r : List ℕ) (l : Ledger) → (answer_of c t r l).number ≡ 0
    → Ready t l (nullifier_of 1 c) (nullifier_of 2 c) (vpub_old_of c) (vpub_new_of c)
ready c t r l h =
    let both = lower_accepts (first (case_refusals c)) (first (ledgers_own c t r l)) (ap (λ (a : Answer). a.number) (sym (answer_lower c t r l)) ∙ h) in
    taken_in c t r l both.1 (unlike.1 (accepted_clauses c both.0).distinct)

-- SETTLED: what counts accepts only where the nullifiers differ
counted_two : (own : Answer) (c : List ℕ) → (own_counted own c).number ≡ 0 → same (nullifier_of 1 c) (nullifier_of 2 c) ≡ false
unfolding own_counted no7
counted_two own c h =
    by_test (is_accepted own)
    (λ e. one_passed (same (nullifier_of 1 c) (nullifier_of 2 c)) 7 0 (λ z. omega arith) (eq-eqb _ 0 (rw e at h)))
    (λ e. absurd (eqb-false own.number 0 e (rw e at h)))

pub ready_settled : (own : Answer) (c t r : List ℕ) (l : Ledger) → (settled_answer own c t r l).number ≡ 0
    → Ready t l (nullifier_of 1 c) (nullifier_of 2 c) (vpub_old_of c) (vpub_new_of c)
unfolding settled_answer
ready_settled own c t r l h =
    let both = lower_accepts (own_counted own c) (first (ledgers_own c t r l)) h in
    taken_in c t r l both.1 (counted_two own c both.0)
