-- The answers of the two calls have room in one number of C, whatever bytes a judgement has. Where the answer is no acceptance, the ledger and its table stay as
-- they were; where a length is wrong, the judgement too. By whose share the next step has.
-- Assumes nothing.
use Prim.Native.Nat.{ℕ, ◌+◌, ◌<◌}
use mathlib.Core.Path.{◌≡◌}
use mathlib.Core.Bool.{false, ◌&&◌}
use mathlib.Core.List.{List}
use native.Mathlib.Omega.{arith}
use borrow.Author.Tests.{ltb-true}
use lib.Dec.{eqb, leb, ltb}
use lib.ListN.{get_or}
use Rattle.octets.specs.Parts.{Bytes, listed, field}
use Rattle.octets.proofs.ByteLaws.{field_bytes_lem, field_below}
use Rattle.refusals.specs.declared.Answer.{Answer}
use Rattle.refusals.specs.Rules.{is_accepted}
use Rattle.refusals.proofs.RuleLaws.{by_test}
use Rattle.casefile.specs.Fields.{has_length}
use Rattle.ledgerbytes.specs.LedgerBytes.{is_whole, ledger_of}
use Rattle.judge.specs.Settling.{table_after_settling}
use Rattle.judge.specs.Kept.{kept_after}
use Rattle.judge.proofs.LedgerAnswers.{chosen}
use Rattle.judge.proofs.Settled.{settled_number, settled_place, settled_row}
use Rattle.slices.specs.Records.{steps_in, holds_case, case_in, answer_in}
use Rattle.slices.specs.Steps.{settled_by, by_share, step_answer, table_after_step, kept_after_step, begin_answer}
use Rattle.slices.proofs.StepLaws.{held_number}
use Rattle.host.proofs.Codes.{FitsCode, rowless}
use Rattle.hostslices.specs.StepCalls.{is_judgement, begin_call_answer, record_after_begin_call, step_call_answer, record_after_step_call, ledger_after_step_call, table_after_step_call}

-- ROOM
pub begin_fits : (c b : List ℕ) → FitsCode (begin_call_answer c b)
unfolding begin_call_answer begin_answer
begin_fits c b =
    let refused = rowless 1 0 (omega arith) (omega arith) in
    chosen FitsCode (is_judgement b)
    (λ e. chosen FitsCode (is_judgement b) (λ f. chosen FitsCode (has_length c) (λ g. rowless 254 1 (omega arith) (omega arith)) (λ g. refused)) (λ f. refused))
    (λ e. rowless 51 7 (omega arith) (omega arith))

-- what a judgement of any bytes holds
held_place : (b : List ℕ) → Bytes b → (answer_in b).place < 256
unfolding answer_in field listed Bytes
held_place b h = chosen (λ (a : Answer). a.place < 256) (leb (get_or b 2 0) 17) (λ e. (field_bytes_lem 3 1 b h).0) (λ e. omega arith)

held_row : (b : List ℕ) → Bytes b → (answer_in b).row.0 < 65536
unfolding answer_in
held_row b h = chosen (λ (a : Answer). a.row.0 < 65536) (leb (get_or b 2 0) 17) (λ e. omega (arith, field_below 4 2 b h)) (λ e. omega arith)

module _ (b s t r : List ℕ) where
  settled_fits : Bytes b → FitsCode (settled_by b t r (ledger_of s))
  settled_fits h =
      let own = answer_in b in
      let l = ledger_of s in
      record {
        number = omega (arith, settled_number own (case_in b) t r l (held_number b));
        place = settled_place own (case_in b) t r l (held_place b h);
        row = omega (arith, settled_row own (case_in b) t r l (held_row b h));
      }

  pub step_fits : Bytes b → FitsCode (step_call_answer b s t r)
  unfolding step_call_answer step_answer by_share
  step_fits h =
      chosen FitsCode (is_whole s)
      (λ w. chosen FitsCode (is_judgement b)
      (λ j. chosen FitsCode (holds_case b)
      (λ k. chosen FitsCode (ltb (steps_in b) 29) (λ e. rowless 254 (steps_in b + 1) (omega arith) (omega (arith, ltb-true (steps_in b) 29 e)))
      (λ _. chosen FitsCode (ltb (steps_in b) 58) (λ e. rowless 254 (steps_in b + 1) (omega arith) (omega (arith, ltb-true (steps_in b) 58 e)))
      (λ _. chosen FitsCode (eqb (steps_in b) 58) (λ e. rowless 254 59 (omega arith) (omega arith))
      (λ _. chosen FitsCode (eqb (steps_in b) 59) (λ e. settled_fits h)
      (λ _. record { number = omega (arith, held_number b); place = held_place b h; row = held_row b h })))))
      (λ k. rowless 1 0 (omega arith) (omega arith)))
      (λ j. rowless 51 7 (omega arith) (omega arith)))
      (λ w. rowless 51 1 (omega arith) (omega arith))

  -- NO ACCEPTANCE leaves the ledger's bytes and its table
  pub step_leaves : is_accepted (step_call_answer b s t r) ≡ false → (ledger_after_step_call b s t r ≡ s) × (table_after_step_call b s t r ≡ t)
  unfolding step_call_answer ledger_after_step_call table_after_step_call step_answer kept_after_step table_after_step by_share kept_after table_after_settling
  step_leaves h =
      by_test (is_whole s)
      (λ w. by_test (is_judgement b)
      (λ j. by_test (holds_case b)
      (λ k. by_test (ltb (steps_in b) 29) (λ e. (rw (w, j, k, e), rw (w, j, k, e)))
      (λ e. by_test (ltb (steps_in b) 58) (λ f. (rw (w, j, k, e, f), rw (w, j, k, e, f)))
      (λ f. by_test (eqb (steps_in b) 58) (λ g. (rw (w, j, k, e, f, g), rw (w, j, k, e, f, g)))
      (λ g. by_test (eqb (steps_in b) 59)
      (λ d. let n = rw (w, j, k, e, f, g, d) at h in (rw (w, j, k, e, f, g, d, n), rw (w, j, k, e, f, g, d, n)))
      (λ d. (rw (w, j, k, e, f, g, d), rw (w, j, k, e, f, g, d)))))))
      (λ k. (rw (w, j, k), rw (w, j, k))))
      (λ j. (rw (w, j), rw (w, j))))
      (λ w. (rw w, rw w))

  -- A WRONG LENGTH leaves the judgement, too
  pub misfit_leaves : (is_whole s && is_judgement b) ≡ false → record_after_step_call b s t r ≡ b
  unfolding record_after_step_call
  misfit_leaves h = by_test (is_whole s) (λ w. let j = rw w at h in rw (w, j)) (λ w. rw w)

pub begin_leaves : (c b : List ℕ) → is_judgement b ≡ false → record_after_begin_call c b ≡ b
unfolding record_after_begin_call
begin_leaves c b h = rw h
