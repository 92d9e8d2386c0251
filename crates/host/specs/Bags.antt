-- A seal and a bag judged for a host. k is the scanner's calibration, b the bag's bytes, s, t and r the ledger's three buffers, o the report's.
-- Assumes nothing.
use Rattle.std.specs.Prelude.{ℕ, cond, ◌&&◌, List, [], ◌∷◌, ◌++◌, Float, Result, Ok, Err}
use Rattle.std.specs.Float.{binary64}
use Rattle.std.specs.Float.Ieee.{to_bits}
use Rattle.octets.specs.Parts.{pasted}
use Rattle.octets.specs.Numbers.{little_bytes}
use Rattle.refusals.specs.declared.Answer.{Answer}
use Rattle.refusals.specs.Rules.{is_accepted}
use Rattle.seal.specs.declared.Calibration.{Calibration}
use Rattle.seal.specs.declared.Reading.{Reading}
use Rattle.seal.specs.declared.SealRefusal.{SealRefusal}
use Rattle.seal.specs.Body.{read_of}
use Rattle.seal.specs.Pull.{judge_of, answer_for, seal_answer}
use Rattle.ledgerbytes.specs.LedgerBytes.{is_whole, ledger_of, ledger_bytes}
use Rattle.bag.specs.declared.Scanned.{Scanned}
use Rattle.bag.specs.SealAndCases.{scanned_of, table_after_bag}
use Rattle.host.specs.Answers.{code_of, wrong_length, is_long}

-- THE SEAL alone, b its body and o the buffer for the pull: a broken body is 20, and only a pass hands the pull out, all its bits in eight bytes
abbrev pub read_answer : Calibration → Result Reading SealRefusal → Answer
read_answer k (Ok reading) = seal_answer (judge_of k reading.gate reading.raw)
read_answer k (Err refusal) = answer_for refusal

abbrev pub pull_bytes : Float → List ℕ
pull_bytes p = little_bytes 8 (to_bits binary64 p)

abbrev pub handed : Result Float SealRefusal → List ℕ → List ℕ
handed (Ok p) o = pasted 0 (pull_bytes p) o
handed (Err refusal) o = o

abbrev pub read_pull : Calibration → Result Reading SealRefusal → List ℕ → List ℕ
read_pull k (Ok reading) o = handed (judge_of k reading.gate reading.raw) o
read_pull k (Err refusal) o = o

unfoldable pub body_answer : Calibration → List ℕ → List ℕ → Answer
body_answer k b o = cond (is_long 8 o) (read_answer k (read_of b)) (wrong_length 5)

unfoldable pub pull_after : Calibration → List ℕ → List ℕ → List ℕ
pull_after k b o = cond (is_long 8 o) (read_pull k (read_of b) o) o

-- THE BAG. Its own answer is the layout's where that refuses, else the seal's
abbrev pub own_answer : Scanned → Answer
own_answer x = cond (is_accepted x.layout) x.seal x.layout

abbrev pub scan_of : Calibration → List ℕ → List ℕ → List ℕ → List ℕ → Scanned
scan_of k b s t r = scanned_of k b t r (ledger_of s)

unfoldable pub bag_answer : Calibration → List ℕ → List ℕ → List ℕ → List ℕ → List ℕ → Answer
bag_answer k b s t r o = cond (is_whole s) (cond (is_long 32 o) (own_answer (scan_of k b s t r)) (wrong_length 3)) (wrong_length 1)

unfoldable pub ledger_after_bag_call : Calibration → List ℕ → List ℕ → List ℕ → List ℕ → List ℕ → List ℕ
ledger_after_bag_call k b s t r o = cond (is_accepted (bag_answer k b s t r o)) (ledger_bytes (scan_of k b s t r).ledger) s

unfoldable pub table_after_bag_call : Calibration → List ℕ → List ℕ → List ℕ → List ℕ → List ℕ → List ℕ
table_after_bag_call k b s t r o = cond (is_whole s && is_long 32 o) (table_after_bag k b t r (ledger_of s)) t

-- what the cases were answered: how many they are, and seven answers, four bytes each
unfoldable pub answers_of : List Answer → List ℕ
answers_of [] = []
answers_of (a ∷ rest) = little_bytes 4 (code_of a) ++ answers_of rest

unfoldable pub report_of : Scanned → List ℕ
report_of x = little_bytes 4 x.cases ++ answers_of x.answers

unfoldable pub report_after_bag_call : Calibration → List ℕ → List ℕ → List ℕ → List ℕ → List ℕ → List ℕ
report_after_bag_call k b s t r o = cond (is_accepted (bag_answer k b s t r o)) (report_of (scan_of k b s t r)) o
