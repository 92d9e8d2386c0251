-- A case settled on a ledger, where the case alone was asked about before: own is what was answered then. c, t, r and l are as for one case on one ledger.
-- Assumes nothing.
use Rattle.std.specs.Prelude.{ℕ, cond, List, Result, Ok, Err}
use Rattle.refusals.specs.declared.Answer.{Answer}
use Rattle.refusals.specs.Rules.{first, is_accepted, lower, refuses_up_to}
use Rattle.statement.specs.CaseRefusals.{no7}
use Rattle.ledger.specs.declared.Ledger.{Ledger}
use Rattle.judge.specs.Judging.{ledgers_own, ledger_by, table_by}

-- what counts of it: two nullifiers that are equal can never both be entered, whatever was answered before
unfoldable pub own_counted : Answer → List ℕ → Answer
own_counted own c = cond (is_accepted own) (first (no7 c)) own

-- the lower of that and the ledger's own answer
unfoldable pub settled_answer : Answer → List ℕ → List ℕ → List ℕ → Ledger → Answer
settled_answer own c t r l = lower (own_counted own c) (first (ledgers_own c t r l))

unfoldable pub ledger_after_settling : Answer → List ℕ → List ℕ → List ℕ → Ledger → Ledger
ledger_after_settling own c t r l = ledger_by (settled_answer own c t r l) c l

unfoldable pub table_after_settling : Answer → List ℕ → List ℕ → List ℕ → Ledger → List ℕ
table_after_settling own c t r l = table_by (settled_answer own c t r l) c t l

-- AN ANSWER IN HAND, asked before what has the number n: it is passed on where it refuses with a number up to n
abbrev pub kept_unless : ℕ → Answer → Result Unit Answer
kept_unless n own = cond (refuses_up_to n own) (Err own) (Ok tt)

-- what was passed on, and the answer in hand where nothing was
abbrev pub own_or : Answer → Result Unit Answer → Answer
own_or own (Ok _) = own
own_or own (Err a) = a
