-- What a step answers and leaves, share by share: what the code of each share gives is what the definitions say.
-- Assumes nothing.
use Prim.Native.Nat.{ℕ, ◌+◌, ◌-◌, ◌<◌, ◌≤◌}
use mathlib.Core.Path.{◌≡◌, sym, ◌∙◌}
use mathlib.Core.Bool.{true, false}
use mathlib.Core.List.{List}
use Rattle.refusals.specs.declared.Answer.{Answer}
use Rattle.refusals.specs.Rules.{answer}
use Rattle.ledgerbytes.specs.LedgerBytes.{ledger_of}
use Rattle.judge.specs.Settling.{ledger_after_settling, table_after_settling}
use Rattle.judge.specs.Kept.{kept_after}
use Rattle.slices.specs.Records.{steps_in, case_in, holds_case, answer_in}
use Rattle.slices.specs.Steps.{not_yet, climbed_in, checked_in, settled_by, settled_in, step_answer, record_after_step, table_after_step, kept_after_step}
use Rattle.slices.proofs.Shares.{share_none, share_first, share_second, share_check, share_settle, share_done}

module _ (b t r s : List ℕ) where
  -- the answer a, and the record, the table and the ledger's bytes after it
  abbrev Outcome : Answer → List ℕ → List ℕ → List ℕ → Type 0
  Outcome a b' t' s' =
      (a ≡ step_answer b t r (ledger_of s)) × ((b' ≡ record_after_step b t r (ledger_of s)) × ((t' ≡ table_after_step b t r (ledger_of s)) × (s' ≡ kept_after_step b t r s)))

  pub none_held : (a : Answer) → holds_case b ≡ false → a ≡ answer 1 0 → Outcome a b t s
  unfolding step_answer record_after_step table_after_step kept_after_step
  none_held a h e =
      (e ∙ sym (share_none _ _ _ _ _ b h), (sym (share_none _ _ _ _ _ b h), (sym (share_none _ _ _ _ _ b h), sym (share_none _ _ _ _ _ b h))))

  module _ (h : holds_case b ≡ true) (a : Answer) (b' : List ℕ) where
    pub first_climbed : steps_in b < 29 → a ≡ not_yet (steps_in b + 1) → b' ≡ climbed_in 1 (steps_in b) b → Outcome a b' t s
    unfolding step_answer record_after_step table_after_step kept_after_step
    first_climbed n e f =
        (e ∙ sym (share_first _ _ _ _ _ b h n), (f ∙ sym (share_first _ _ _ _ _ b h n), (sym (share_first _ _ _ _ _ b h n), sym (share_first _ _ _ _ _ b h n))))

    pub second_climbed : 29 ≤ steps_in b → steps_in b < 58 → a ≡ not_yet (steps_in b + 1) → b' ≡ climbed_in 2 (steps_in b - 29) b → Outcome a b' t s
    unfolding step_answer record_after_step table_after_step kept_after_step
    second_climbed m n e f =
        (e ∙ sym (share_second _ _ _ _ _ b h m n), (f ∙ sym (share_second _ _ _ _ _ b h m n), (sym (share_second _ _ _ _ _ b h m n), sym (share_second _ _ _ _ _ b h m n))))

    pub checked : steps_in b ≡ 58 → a ≡ not_yet 59 → b' ≡ checked_in b → Outcome a b' t s
    unfolding step_answer record_after_step table_after_step kept_after_step
    checked n e f =
        (e ∙ sym (share_check _ _ _ _ _ b h n), (f ∙ sym (share_check _ _ _ _ _ b h n), (sym (share_check _ _ _ _ _ b h n), sym (share_check _ _ _ _ _ b h n))))

    pub settled : (t' s' : List ℕ) → steps_in b ≡ 59 → a ≡ settled_by b t r (ledger_of s) → b' ≡ settled_in b t r (ledger_of s) → t' ≡ table_after_settling (answer_in b) (case_in b) t r (ledger_of s)
        → s' ≡ kept_after (settled_by b t r (ledger_of s)) (ledger_after_settling (answer_in b) (case_in b) t r (ledger_of s)) s → Outcome a b' t' s'
    unfolding step_answer record_after_step table_after_step kept_after_step
    settled t' s' n e f g k =
        (e ∙ sym (share_settle _ _ _ _ _ b h n), (f ∙ sym (share_settle _ _ _ _ _ b h n), (g ∙ sym (share_settle _ _ _ _ _ b h n), k ∙ sym (share_settle _ _ _ _ _ b h n))))

  pub done : holds_case b ≡ true → (a : Answer) → 60 ≤ steps_in b → a ≡ answer_in b → Outcome a b t s
  unfolding step_answer record_after_step table_after_step kept_after_step
  done h a n e =
      (e ∙ sym (share_done _ _ _ _ _ b h n), (sym (share_done _ _ _ _ _ b h n), (sym (share_done _ _ _ _ _ b h n), sym (share_done _ _ _ _ _ b h n))))
