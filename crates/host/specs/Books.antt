-- The shift's books as bytes: a tally of 12, and a day list in rows of 6. a is an answer as one number.
-- Assumes nothing.
use Rattle.std.specs.Prelude.{ℕ, zero, suc, ◌*◌, ◌/◌, ◌%◌, Bool, cond, not, ◌&&◌, ◌||◌, List, [], ◌∷◌, ◌++◌, eqb, ltb, length, get_or, drop}
use Rattle.octets.specs.Parts.{field, pasted}
use Rattle.octets.specs.Numbers.{little, little_bytes}
use Rattle.refusals.specs.declared.Answer.{Answer}
use Rattle.refusals.specs.Rules.{accepted, is_accepted}
use Rattle.books.specs.declared.DayRow.{DayRow}
use Rattle.books.specs.declared.Tally.{Tally}
use Rattle.books.specs.Tally.{Tallied, tally_of}
use Rattle.host.specs.Answers.{wrong_length, is_long, tally_full, no_such_row, no_answer}

-- THE TALLY: seen, passed, refused, four bytes each
unfoldable pub tally_in : List ℕ → Tally
tally_in b = record { seen = little (field 0 4 b); passed = little (field 4 4 b); refused = little (field 8 4 b) }

unfoldable pub tally_bytes : Tally → List ℕ
tally_bytes t = little_bytes 4 t.seen ++ little_bytes 4 t.passed ++ little_bytes 4 t.refused

-- the tally with one answer more; 0 is a pass
abbrev pub counted_in : List ℕ → ℕ → Tallied
counted_in b a = tally_of (tally_in b) (eqb a 0)

unfoldable pub tally_answer : List ℕ → ℕ → Answer
tally_answer b a = cond (is_long 12 b) (cond (counted_in b a).ok accepted tally_full) (wrong_length 4)

unfoldable pub tally_after : List ℕ → ℕ → List ℕ
tally_after b a = cond (is_accepted (tally_answer b a)) (tally_bytes (counted_in b a).tally) b

-- THE DAY LIST: a seal's number in four bytes, an answer's number in one and its place in one; as many rows as are whole. The row of the nullifier table
-- that an answer may carry is not kept
unfoldable pub day_row : ℕ → ℕ → List ℕ
day_row seal a = little_bytes 4 seal ++ little_bytes 2 a

abbrev pub is_on_list : ℕ → List ℕ → Bool
is_on_list i b = ltb i (length b / 6)

-- a number and a place, and nothing above them but with the number 8, which carries a row; the number 0 is a pass, and a pass has no place
unfoldable pub is_answer : ℕ → Bool
is_answer a = (ltb a 65536 || eqb (a % 256) 8) && (not (eqb (a % 256) 0) || eqb a 0)

unfoldable pub day_answer : ℕ → ℕ → List ℕ → Answer
day_answer i a b = cond (is_on_list i b) (cond (is_answer a) accepted no_answer) no_such_row

unfoldable pub day_after : ℕ → ℕ → ℕ → List ℕ → List ℕ
day_after i seal a b = cond (is_accepted (day_answer i a b)) (pasted (6 * i) (day_row seal a) b) b

-- the rows that the bytes are, as `books` has them
unfoldable pub day_row_of : List ℕ → DayRow
day_row_of b = record { seal = little (field 0 4 b); answer = get_or b 4 0; place = get_or b 5 0 }

unfoldable pub day_rows : ℕ → List ℕ → List DayRow
day_rows zero b = []
day_rows (suc n) b = day_row_of b ∷ day_rows n (drop 6 b)

abbrev pub day_list : List ℕ → List DayRow
day_list b = day_rows (length b / 6) b
