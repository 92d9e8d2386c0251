-- A ledger in three buffers: s its own 988 bytes, t its nullifier table, r its anchor roll. Each call's answer, and each buffer after it: what `ledger`
-- and `judge` give for the ledger that s says. A refusal leaves every buffer as it was.
-- Assumes nothing.
use Rattle.std.specs.Prelude.{ℕ, cond, List}
use Rattle.refusals.specs.declared.Answer.{Answer}
use Rattle.refusals.specs.Rules.{first, accepted, is_accepted}
use Rattle.sha256.specs.Hash.{sha256_of}
use Rattle.tree.specs.Record.{record_root}
use Rattle.ledger.specs.Ledgers.{open_refusals, opened_of, roll_after_open, close_refusals, closed_of, roll_after_close}
use Rattle.ledgerbytes.specs.LedgerBytes.{is_whole, ledger_of, ledger_bytes, buffer_after_write}
use Rattle.judge.specs.Judging.{answer_of, ledger_after_case, table_after_case}
use Rattle.host.specs.Answers.{wrong_length, is_long}

-- OPENING. Where the roll has no row, the ledger that comes back is all zeros, and so are its bytes
unfoldable pub open_answer : List ℕ → List ℕ → Answer
open_answer s r = cond (is_whole s) (first (open_refusals r)) (wrong_length 1)

abbrev pub ledger_after_open_call : List ℕ → List ℕ → List ℕ
ledger_after_open_call s r = buffer_after_write (opened_of r) s

unfoldable pub roll_after_open_call : List ℕ → List ℕ → List ℕ
roll_after_open_call s r = cond (is_whole s) (roll_after_open r) r

-- JUDGING a case, c
unfoldable pub judge_answer : List ℕ → List ℕ → List ℕ → List ℕ → Answer
judge_answer c s t r = cond (is_whole s) (answer_of c t r (ledger_of s)) (wrong_length 1)

unfoldable pub ledger_after_judge_call : List ℕ → List ℕ → List ℕ → List ℕ → List ℕ
ledger_after_judge_call c s t r = cond (is_accepted (judge_answer c s t r)) (ledger_bytes (ledger_after_case c t r (ledger_of s))) s

unfoldable pub table_after_judge_call : List ℕ → List ℕ → List ℕ → List ℕ → List ℕ
table_after_judge_call c s t r = cond (is_whole s) (table_after_case c t r (ledger_of s)) t

-- CLOSING a block
unfoldable pub close_answer : List ℕ → List ℕ → List ℕ → Answer
close_answer s t r = cond (is_whole s) (first (close_refusals t r (ledger_of s))) (wrong_length 1)

unfoldable pub ledger_after_close_call : List ℕ → List ℕ → List ℕ → List ℕ
ledger_after_close_call s t r = cond (is_accepted (close_answer s t r)) (ledger_bytes (closed_of t r (ledger_of s))) s

unfoldable pub roll_after_close_call : List ℕ → List ℕ → List ℕ → List ℕ
roll_after_close_call s t r = cond (is_whole s) (roll_after_close t r (ledger_of s)) r

-- THE ROOT of the ledger's record, into the buffer o
unfoldable pub root_answer : List ℕ → List ℕ → Answer
root_answer s o = cond (is_whole s) (cond (is_long 32 o) accepted (wrong_length 2)) (wrong_length 1)

unfoldable pub root_after : List ℕ → List ℕ → List ℕ
root_after s o = cond (is_accepted (root_answer s o)) (record_root (ledger_of s).tree) o

-- THE SHA-256 of any bytes m, into the buffer o: by it a host tells a stored ledger that is torn
unfoldable pub hash_answer : List ℕ → Answer
hash_answer o = cond (is_long 32 o) accepted (wrong_length 6)

unfoldable pub hash_after : List ℕ → List ℕ → List ℕ
hash_after m o = cond (is_accepted (hash_answer o)) (sha256_of m) o
