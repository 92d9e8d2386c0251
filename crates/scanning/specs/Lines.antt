-- What the scanner prints for what scanning a bag gave, as document 01 has it: lines of ASCII, each with its end. Where rows are told, a case that is
-- refused as spent has a line more.
-- Assumes nothing.
use Rattle.std.specs.Prelude.{ℕ, Bool, cond, take}
use mathlib.Core.List.{List, ◌++◌, flat_map}
use Rattle.text.specs.Words.{ascii}
use Rattle.text.specs.Decimal.{decimal}
use Rattle.text.specs.Answers.{answer_line, answer_and_row}
use Rattle.refusals.specs.declared.Answer.{Answer}
use Rattle.refusals.specs.Rules.{is_accepted}
use Rattle.ledger.specs.declared.Ledger.{Ledger}
use Rattle.bag.specs.declared.Scanned.{Scanned}

-- the line of a case; where rows are told, that of a spent nullifier's row behind it
unfoldable pub case_text : Bool → Answer → List ℕ
case_text rows a = cond rows (answer_and_row (ascii "case") a) (answer_line (ascii "case") a)

-- of each answer
unfoldable pub case_lines : Bool → List Answer → List ℕ
case_lines rows given = flat_map (case_text rows) given

-- the nullifiers that are spent, the leaves of the tree and the pool
unfoldable pub ledger_line : Ledger → List ℕ
ledger_line l =
    ascii "ledger spent " ++ decimal l.nullifiers ++ ascii " leaves " ++ decimal l.tree.leaves ++ ascii " pool " ++ decimal l.pool.0
    ++ ascii "\n"

-- ALL LINES: of a refused layout its line alone, of a refused seal its line alone; else the seal's, each judged case's, the ledger's
unfoldable pub lines_of : Bool → Scanned → List ℕ
lines_of rows s =
    cond (is_accepted s.layout)
    (cond (is_accepted s.seal)
    (answer_line (ascii "seal") s.seal ++ case_lines rows (take s.cases s.answers) ++ ledger_line s.ledger)
    (answer_line (ascii "seal") s.seal))
    (answer_line (ascii "bag") s.layout)
