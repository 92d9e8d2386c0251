-- What the judge hands back, by whether its answer accepts.
-- Assumes nothing.
use Prim.Native.Nat.{ℕ}
use mathlib.Core.Path.{◌≡◌, sym, ap, ◌∙◌}
use mathlib.Core.Bool.{true, false}
use mathlib.Core.List.{List, [], ◌∷◌, ◌++◌}
use Rattle.refusals.specs.declared.Answer.{Answer}
use Rattle.refusals.specs.Rules.{rules_in, first, answer, accepted, is_accepted}
use Rattle.std.specs.Prelude.{Result}
use Rattle.std.specs.Result.{IsErr, IsErrAnd}
use Rattle.refusals.specs.declared.Refusal.{Refusal}
use Rattle.refusals.specs.Reasons.{answer_for, as_answer}
use Rattle.refusals.proofs.RuleLaws.{run_refused_by, run_passed_by, last_group}
use Rattle.casefile.specs.Fields.{has_length, vpub_old_of, vpub_new_of, nullifier_of, commitment_of}
use Rattle.statement.specs.CaseRefusals.{no1, witness_refusals}
use Rattle.ledger.specs.declared.Ledger.{Ledger}
use Rattle.ledger.specs.declared.Answered.{Answered}
use Rattle.ledger.specs.Rows.{table_with_two}
use Rattle.ledger.specs.Ledgers.{entered_of}
use Rattle.ledgerbytes.specs.LedgerBytes.{buffer_after_write}
use Rattle.judge.specs.Judging.{judge_refusals, front_refusals, answer_of, ledger_by, table_by, ledger_after_case, table_after_case, judged_of}
use Rattle.judge.specs.Kept.{kept_after}
use Rattle.judge.proofs.Halves.{pool_refusals, front_numbers, behind_front, witness_numbers}

module _ (c t r : List ℕ) (l : Ledger) where
  -- the length decides before all else
  pub length_decides : has_length c ≡ false → answer 1 0 ≡ answer_of c t r l
  unfolding answer_of judge_refusals rules_in no1 first
  length_decides h = rw h

  -- then the half that needs no hash, the witness and the pool, one after the other
  whole : (a : Answer) → a ≡ first (rules_in (front_refusals c t r l ++ (witness_refusals c ++ (pool_refusals c l ∷ [])))) → a ≡ answer_of c t r l
  unfolding answer_of
  whole a h = h ∙ ap first (sym (behind_front c t r l))

  module _ (refusal : Refusal) (asked : Result Unit Refusal) (h : IsErr asked × IsErrAnd asked (λ (r : Refusal). r ≡ refusal)) where
    pub front_decides : answer_for refusal ≡ first (rules_in (front_refusals c t r l)) → as_answer asked ≡ answer_of c t r l
    front_decides e = whole _ (run_refused_by (front_refusals c t r l) (witness_refusals c ++ (pool_refusals c l ∷ [])) refusal asked e h)

    pub witness_decides : accepted ≡ first (rules_in (front_refusals c t r l)) → answer_for refusal ≡ first (rules_in (witness_refusals c)) → as_answer asked ≡ answer_of c t r l
    witness_decides p e =
        whole _ (run_passed_by (front_refusals c t r l) (witness_refusals c ++ (pool_refusals c l ∷ [])) _ (front_numbers c t r l) p
        (run_refused_by (witness_refusals c) (pool_refusals c l ∷ []) refusal asked e h))

  pub pool_decides : (a : Answer) → accepted ≡ first (rules_in (front_refusals c t r l)) → accepted ≡ first (rules_in (witness_refusals c)) → a ≡ first (pool_refusals c l)
      → a ≡ answer_of c t r l
  pool_decides a p q e =
      whole _ (run_passed_by (front_refusals c t r l) (witness_refusals c ++ (pool_refusals c l ∷ [])) a (front_numbers c t r l) p
      (run_passed_by (witness_refusals c) (pool_refusals c l ∷ []) a (witness_numbers c t r l) q (e ∙ last_group (pool_refusals c l))))

  -- a refusal leaves everything
  pub refused_ledger : is_accepted (answer_of c t r l) ≡ false → ledger_after_case c t r l ≡ l
  unfolding ledger_after_case
  refused_ledger h = rw h

  pub refused_table : is_accepted (answer_of c t r l) ≡ false → table_after_case c t r l ≡ t
  unfolding table_after_case
  refused_table h = rw h

  -- an accepted case is entered
  pub accepted_ledger : is_accepted (answer_of c t r l) ≡ true → ledger_after_case c t r l ≡ entered_of l (commitment_of 1 c) (commitment_of 2 c) (vpub_old_of c) (vpub_new_of c)
  unfolding ledger_after_case
  accepted_ledger h = rw h

  pub accepted_table : is_accepted (answer_of c t r l) ≡ true → table_after_case c t r l ≡ table_with_two l.nullifiers t (nullifier_of 1 c) (nullifier_of 2 c)
  unfolding table_after_case
  accepted_table h = rw h

  pub judged : (a : Answer) (m : Ledger) → a ≡ answer_of c t r l → m ≡ ledger_after_case c t r l → ◌≡◌ {A = Answered} (record { answer = a; ledger = m }) (judged_of c t r l)
  unfolding judged_of
  judged a m p q = rw (p, q)

-- bytes that keep a ledger are left by a refusal, and written by an acceptance
module _ (a : Answer) (l : Ledger) (s : List ℕ) where
  pub refused_kept : is_accepted a ≡ false → s ≡ kept_after a l s
  unfolding kept_after
  refused_kept h = rw h

  pub accepted_kept : is_accepted a ≡ true → buffer_after_write l s ≡ kept_after a l s
  unfolding kept_after
  accepted_kept h = rw h

-- and so it is with the table and the bytes together, by any answer to a case
module _ (a : Answer) (c t s : List ℕ) (l : Ledger) where
  pub both_left : is_accepted a ≡ false → (t ≡ table_by a c t l) × (s ≡ kept_after a (ledger_by a c l) s)
  both_left h = (rw h, refused_kept a (ledger_by a c l) s h)

  pub both_entered : is_accepted a ≡ true
      → (table_with_two l.nullifiers t (nullifier_of 1 c) (nullifier_of 2 c) ≡ table_by a c t l)
      × (buffer_after_write (entered_of l (commitment_of 1 c) (commitment_of 2 c) (vpub_old_of c) (vpub_new_of c)) s ≡ kept_after a (ledger_by a c l) s)
  unfolding kept_after
  both_entered h = (rw h, rw h)
