-- The day list: one row is rewritten, and where there is no such row nothing is.
-- Assumes nothing.
use Rattle.std.specs.Prelude.{ℕ, Bool, cond, List, ltb, length, set}
use Rattle.books.specs.declared.DayRow.{DayRow}

-- the list has a row of that number, counted from 0
abbrev pub is_on : ℕ → List DayRow → Bool
is_on i rows = ltb i (length rows)

-- the list after row r was entered at number i
unfoldable pub with_day_row : ℕ → DayRow → List DayRow → List DayRow
with_day_row i r rows = cond (is_on i rows) (set rows i r) rows
