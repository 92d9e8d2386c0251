-- An answer as a line of text, and the row of a spent nullifier as another.
-- Assumes nothing.
use Rattle.std.specs.Prelude.{ℕ, cond, List, [], ◌++◌, eqb}
use Rattle.refusals.specs.declared.Answer.{Answer}
use Rattle.text.specs.Words.{ascii}
use Rattle.text.specs.Decimal.{decimal}

-- a word, the number and the place
unfoldable pub answer_words : List ℕ → Answer → List ℕ
answer_words word a = word ++ ascii " " ++ decimal a.number ++ ascii " " ++ decimal a.place

unfoldable pub answer_line : List ℕ → Answer → List ℕ
answer_line word a = answer_words word a ++ ascii "\n"

-- the line of the row in which a nullifier that is refused as spent stands; no other answer has one
unfoldable pub spent_row_line : Answer → List ℕ
spent_row_line a = cond (eqb a.number 8) (ascii "row " ++ decimal a.row.0 ++ ascii "\n") []

-- both
unfoldable pub answer_and_row : List ℕ → Answer → List ℕ
answer_and_row word a = answer_line word a ++ spent_row_line a
