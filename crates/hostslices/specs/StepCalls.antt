-- A host's judgement in steps: b is the judgement's bytes, c a case, s, t and r the ledger's three buffers. Each call's answer, and each buffer after it: what
-- `slices` gives, where the lent lengths are right. A wrong length leaves every buffer as it was.
-- Assumes nothing.
use Rattle.std.specs.Prelude.{ℕ, Bool, cond, List}
use Rattle.refusals.specs.declared.Answer.{Answer}
use Rattle.ledgerbytes.specs.LedgerBytes.{is_whole, ledger_of}
use Rattle.slices.specs.Records.{judgement_length}
use Rattle.slices.specs.Steps.{begin_answer, record_after_begin, step_answer, record_after_step, table_after_step, kept_after_step}
use Rattle.host.specs.Answers.{wrong_length, is_long}

abbrev pub is_judgement : List ℕ → Bool
is_judgement b = is_long judgement_length b

-- THE FIRST STEP
unfoldable pub begin_call_answer : List ℕ → List ℕ → Answer
begin_call_answer c b = cond (is_judgement b) (begin_answer c b) (wrong_length 7)

unfoldable pub record_after_begin_call : List ℕ → List ℕ → List ℕ
record_after_begin_call c b = cond (is_judgement b) (record_after_begin c b) b

-- EACH LATER STEP, on the ledger that is lent to it
unfoldable pub step_call_answer : List ℕ → List ℕ → List ℕ → List ℕ → Answer
step_call_answer b s t r = cond (is_whole s) (cond (is_judgement b) (step_answer b t r (ledger_of s)) (wrong_length 7)) (wrong_length 1)

unfoldable pub record_after_step_call : List ℕ → List ℕ → List ℕ → List ℕ → List ℕ
record_after_step_call b s t r = cond (is_whole s) (cond (is_judgement b) (record_after_step b t r (ledger_of s)) b) b

unfoldable pub ledger_after_step_call : List ℕ → List ℕ → List ℕ → List ℕ → List ℕ
ledger_after_step_call b s t r = cond (is_whole s) (cond (is_judgement b) (kept_after_step b t r s) s) s

unfoldable pub table_after_step_call : List ℕ → List ℕ → List ℕ → List ℕ → List ℕ
table_after_step_call b s t r = cond (is_whole s) (cond (is_judgement b) (table_after_step b t r (ledger_of s)) t) t
