-- A HOST'S SHIFT WITH STEPS: step 60 of a judgement that the steps made answers and leaves, byte by byte, what `snaldrek_judge` would of its case; every other
-- step leaves the ledger's bytes and its table. So what is said of a shift of whole calls is said of one with steps between them.
-- Assumes nothing.
use Prim.Native.Nat.{ℕ}
use mathlib.Core.Path.{◌≡◌, sym, ap, ap₂, ◌∙◌}
use mathlib.Core.Bool.{Bool, true, cond}
use mathlib.Core.List.{List}
use native.Mathlib.Omega.{arith}
use borrow.Author.Tests.{eq-eqb}
use lib.ListN.{length}
use Rattle.refusals.specs.declared.Answer.{Answer}
use Rattle.refusals.proofs.RuleLaws.{by_test}
use Rattle.casefile.specs.Fields.{has_length}
use Rattle.ledger.specs.declared.Ledger.{Ledger}
use Rattle.ledgerbytes.specs.LedgerBytes.{is_whole, ledger_of, buffer_after_write}
use Rattle.judge.specs.Judging.{answer_of, ledger_after_case}
use Rattle.judge.specs.Kept.{kept_after}
use Rattle.slices.specs.Records.{judgement_length, steps_in, holds_case}
use Rattle.slices.specs.Steps.{step_answer, kept_after_step, ledger_after_step, table_after_step}
use Rattle.slices.proofs.Shares.{share_settle, share_same}
use Rattle.slices.proofs.StepLaws.{holds_long}
use Rattle.demands.specs.Histories.{Held, held_after}
use Rattle.demands.specs.Slices.{MadeOf}
use Rattle.demands.proofs.Slices.{made_holds, sixty_answers, sixty_leaves}
use Rattle.host.specs.Ledgers.{judge_answer, ledger_after_judge_call, table_after_judge_call}
use Rattle.hostslices.specs.StepCalls.{is_judgement, step_call_answer, ledger_after_step_call, table_after_step_call}

module _ (c b s t r : List ℕ) (w : has_length c ≡ true) (m : MadeOf c 59 b) (k : is_whole s ≡ true) where
  abbrev h : Held
  h = record { table = t; roll = r; ledger = ledger_of s }

  held : holds_case b ≡ true
  unfolding holds_case
  held = ap has_length (made_holds c w m (omega arith)).case ∙ w

  long : is_judgement b ≡ true
  long = eq-eqb (length b) judgement_length (holds_long b held)

  -- the answer
  pub sixty_call : step_call_answer b s t r ≡ judge_answer c s t r
  unfolding step_call_answer judge_answer
  sixty_call = rw (k, long) (sixty_answers c w m h)

  -- the table
  pub sixty_table : table_after_step_call b s t r ≡ table_after_judge_call c s t r
  unfolding table_after_step_call table_after_judge_call held_after
  sixty_table = rw (k, long) (ap (λ (x : Held). x.table) (sixty_leaves c w m h))

  -- the ledger's bytes
  kept : kept_after_step b t r s ≡ kept_after (answer_of c t r (ledger_of s)) (ledger_after_case c t r (ledger_of s)) s
  unfolding kept_after_step step_answer ledger_after_step held_after
  kept =
      let n = (made_holds c w m (omega arith)).steps in
      share_settle _ _ _ _ _ b held n
      ∙ ap₂ (λ (a : Answer) (l : Ledger). kept_after a l s)
      (sym (share_settle _ _ _ _ _ b held n) ∙ sixty_answers c w m h)
      (sym (share_settle _ _ _ _ _ b held n) ∙ ap (λ (x : Held). x.ledger) (sixty_leaves c w m h))

  pub sixty_ledger : ledger_after_step_call b s t r ≡ ledger_after_judge_call c s t r
  unfolding ledger_after_step_call ledger_after_judge_call judge_answer kept_after buffer_after_write
  sixty_ledger = rw (k, long) (kept ∙ rw k)

-- every other step, of any judgement
module _ (b s t r : List ℕ) (n : steps_in b ≡ 59 → ⊥) where
  either : (x y : Bool) (u v : List ℕ) → u ≡ v → cond x (cond y u v) v ≡ v
  either x y u v e = by_test x (λ p. by_test y (λ q. rw (p, q) e) (λ q. rw (p, q))) (λ p. rw p)

  pub other_ledger : ledger_after_step_call b s t r ≡ s
  unfolding ledger_after_step_call kept_after_step
  other_ledger = either (is_whole s) (is_judgement b) (kept_after_step b t r s) s (share_same s _ b n)

  pub other_table : table_after_step_call b s t r ≡ t
  unfolding table_after_step_call table_after_step
  other_table = either (is_whole s) (is_judgement b) (table_after_step b t r (ledger_of s)) t (share_same t _ b n)
