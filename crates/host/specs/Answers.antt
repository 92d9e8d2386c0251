-- Answers as C has them, and the refusals of this room alone.
-- Assumes nothing.
use Rattle.std.specs.Prelude.{ℕ, ◌+◌, ◌*◌, ◌%◌, Bool, List, eqb, length}
use Rattle.refusals.specs.declared.Answer.{Answer}
use Rattle.refusals.specs.Rules.{answer}
use Rattle.host.specs.declared.Misuse.{Misuse}
use Rattle.host.specs.declared.Misuse.TheVariants.{LedgerLength, RootLength, ReportLength, TallyLength, PullLength, DigestLength, JudgementLength, TallyFull, NoSuchRow, NoAnswer}

-- one number: the refusal's own, 256 times its place, and 65,536 times its row. 16 bits have room for the row: no call answers with a higher one (`judge_fits`
-- and its like in proofs/Codes.antt), so nothing is cut
abbrev pub code_of : Answer → ℕ
code_of a = a.number + 256 * a.place + 65536 * (a.row.0 % 65536)

-- 51: a lent buffer is not as long as it must be; place 1 the ledger's, 2 the root's, 3 the report's, 4 the tally's, 5 the pull's, 6 the digest's, 7 a judgement's
abbrev pub wrong_length : ℕ → Answer
wrong_length place = answer 51 place

abbrev pub is_long : ℕ → List ℕ → Bool
is_long n b = eqb (length b) n

-- 52: the tally has no room for one more
abbrev pub tally_full : Answer
tally_full = answer 52 0

-- 53: the day list has no such row
abbrev pub no_such_row : Answer
no_such_row = answer 53 0

-- 54: what is to be entered is no answer
abbrev pub no_answer : Answer
no_answer = answer 54 0

-- what a caller does wrong, as it is answered
abbrev pub answer_for : Misuse → Answer
answer_for LedgerLength = wrong_length 1
answer_for RootLength = wrong_length 2
answer_for ReportLength = wrong_length 3
answer_for TallyLength = wrong_length 4
answer_for PullLength = wrong_length 5
answer_for DigestLength = wrong_length 6
answer_for JudgementLength = wrong_length 7
answer_for TallyFull = tally_full
answer_for NoSuchRow = no_such_row
answer_for NoAnswer = no_answer
