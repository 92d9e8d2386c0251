-- What is printed, byte by byte: the worked example of document 01, any bag whose layout is broken, a seal that is refused, and the two highest pools.
-- Assumes nothing.
use Prim.Native.Nat.{ℕ}
use mathlib.Core.Path.{◌≡◌, refl, ◌∙◌}
use mathlib.Core.Bool.{Bool, true, false}
use mathlib.Core.List.{List, [], ◌∷◌, ◌++◌, flat_map}
use native.Mathlib.Omega.{arith}
use Rattle.units.specs.Limits.{max_money}
use Rattle.text.specs.Words.{ascii}
use Rattle.text.specs.Decimal.{decimal, decimal_within}
use Rattle.text.specs.Answers.{answer_words, answer_line, spent_row_line, answer_and_row}
use Rattle.text.proofs.DecimalLaws.{decimal_within_lem}
use Rattle.refusals.specs.declared.Answer.{Answer}
use Rattle.refusals.specs.Rules.{answer, answer_in_row, accepted}
use Rattle.ledger.specs.declared.Ledger.{Ledger}
use Rattle.bag.specs.Contents.{laid_out}
use Rattle.bag.specs.SealAndCases.{seal_in, seven_answers, report, scanned_of}
use Rattle.scanning.specs.FreshLedger.{fresh_scan}
use Rattle.scanning.specs.Lines.{case_text, case_lines, ledger_line, lines_of}

-- THE EXAMPLE of document 01: a case that passes, and the same case again, whose first nullifier is spent by then
counts : ascii "ledger spent " ++ decimal 2 ++ ascii " leaves " ++ decimal 2 ++ ascii " pool " ++ decimal 10000 ++ ascii "\n"
    ≡ ascii "ledger spent 2 leaves 2 pool 10000\n"
unfolding decimal decimal_within
counts = refl

ledger_example : (l : Ledger) → l.nullifiers ≡ 2 → l.tree.leaves ≡ 2 → l.pool.0 ≡ 10000
    → ledger_line l ≡ ascii "ledger spent 2 leaves 2 pool 10000\n"
unfolding ledger_line
ledger_example l h k m = rw (h, k, m) counts

-- in whichever row that stands
pub example : (row : ℕ) (l : Ledger) → l.nullifiers ≡ 2 → l.tree.leaves ≡ 2 → l.pool.0 ≡ 10000
    → lines_of false (report accepted accepted (accepted ∷ answer_in_row 8 1 row ∷ []) l)
    ≡ ascii "seal 0 0\ncase 0 0\ncase 8 1\nledger spent 2 leaves 2 pool 10000\n"
unfolding lines_of case_lines case_text flat_map answer_line answer_words report seven_answers decimal decimal_within
example row l h k m = rw (ledger_example l h k m)

-- and where rows are told, with the line of that row
pub example_explained : (l : Ledger) → l.nullifiers ≡ 2 → l.tree.leaves ≡ 2 → l.pool.0 ≡ 10000
    → lines_of true (report accepted accepted (accepted ∷ answer_in_row 8 1 0 ∷ []) l)
    ≡ ascii "seal 0 0\ncase 0 0\ncase 8 1\nrow 0\nledger spent 2 leaves 2 pool 10000\n"
unfolding lines_of case_lines case_text flat_map answer_and_row spent_row_line answer_line answer_words report seven_answers decimal decimal_within
example_explained l h k m = rw (ledger_example l h k m)

-- A BROKEN LAYOUT, of any bag that has one
pub broken : (rows : Bool) (b : List ℕ) → laid_out b ≡ false → lines_of rows (fresh_scan b) ≡ ascii "bag 20 0\n"
unfolding lines_of answer_line answer_words fresh_scan scanned_of report seal_in decimal decimal_within
broken rows b h = rw h

-- A REFUSED SEAL, whatever else the result says
pub refused_seal : (rows : Bool) (given : List Answer) (l : Ledger) → lines_of rows (report accepted (answer 23 0) given l) ≡ ascii "seal 23 0\n"
unfolding lines_of answer_line answer_words report decimal decimal_within
refused_seal rows given l = refl

-- THE HIGHEST POOL that is no damage, and the highest that eight bytes can hold
all_money_digits : decimal_within 16 max_money ≡ ascii "2100000000000000"
unfolding decimal_within
all_money_digits = refl

pub all_money : decimal max_money ≡ ascii "2100000000000000"
all_money = decimal_within_lem 15 max_money (omega arith) ∙ all_money_digits

eight_bytes_digits : decimal_within 20 18446744073709551615 ≡ ascii "18446744073709551615"
unfolding decimal_within
eight_bytes_digits = refl

pub eight_bytes : decimal 18446744073709551615 ≡ ascii "18446744073709551615"
eight_bytes = decimal_within_lem 19 18446744073709551615 (omega arith) ∙ eight_bytes_digits
