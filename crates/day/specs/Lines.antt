-- What the day's program prints: the answers of a day, entered and counted one after the other, and tallies that are full or nearly so.
-- Assumes nothing.
use Rattle.std.specs.Prelude.{ℕ, Bool, true, false, eqb, replicate}
use mathlib.Core.List.{List, [], ◌∷◌, ◌++◌, flat_map}
use Rattle.text.specs.Words.{ascii}
use Rattle.text.specs.Decimal.{decimal}
use Rattle.books.specs.declared.DayRow.{DayRow}
use Rattle.books.specs.declared.Tally.{Tally}
use Rattle.books.specs.DayList.{is_on, with_day_row}
use Rattle.books.specs.History.{empty}
use Rattle.books.specs.Tally.{Tallied, tally_of}
use Rattle.day.specs.declared.Entry.{Entry}

abbrev pub row_with : ℕ → ℕ → ℕ → DayRow
row_with seal answer place = record { seal = seal; answer = answer; place = place }

abbrev pub tally : ℕ → ℕ → ℕ → Tally
tally seen passed refused = record { seen = seen; passed = passed; refused = refused }

abbrev pub counted : Bool → Tally → Tallied
counted ok t = record { ok = ok; tally = t }

-- THE LINES: a row of the list; an entering, its row number and whether there is such a row; a tally; a counting, whether it was taken and the tally then
unfoldable pub three_line : List ℕ → ℕ → ℕ → ℕ → List ℕ
three_line word a b c = word ++ ascii " " ++ decimal a ++ ascii " " ++ decimal b ++ ascii " " ++ decimal c ++ ascii "\n"

unfoldable pub day_row_line : DayRow → List ℕ
day_row_line r = three_line (ascii "row") r.seal r.answer r.place

unfoldable pub yes_or_no : Bool → List ℕ
yes_or_no true = ascii " yes"
yes_or_no false = ascii " no"

unfoldable pub enter_line : ℕ → Bool → List ℕ
enter_line at ok = ascii "enter" ++ ascii " " ++ decimal at ++ yes_or_no ok ++ ascii "\n"

unfoldable pub tally_line : Tally → List ℕ
tally_line t = three_line (ascii "tally") t.seen t.passed t.refused

unfoldable pub count_line : Tallied → List ℕ
count_line c = ascii "count" ++ yes_or_no c.ok ++ ascii " " ++ tally_line c.tally

-- A DAY: each answer is entered in the list and counted; then the list and the tally
abbrev pub is_pass : Entry → Bool
is_pass e = eqb e.row.answer 0

unfoldable pub day_lines : List Entry → List DayRow → Tally → List ℕ
day_lines [] rows t = flat_map day_row_line rows ++ tally_line t
day_lines (e ∷ es) rows t =
    enter_line e.at.0 (is_on e.at.0 rows) ++ count_line (tally_of t (is_pass e))
    ++ day_lines es (with_day_row e.at.0 e.row rows) (tally_of t (is_pass e)).tally

-- the day's seven answers: in order, on a row that is used, past the end, and past every end
abbrev pub entry : ℕ → ℕ → ℕ → ℕ → Entry
entry at seal answer place = record { at = record { 0 = at }; row = row_with seal answer place }

abbrev pub last_entry : Entry
last_entry = entry 2 4294967295 255 255

unfoldable pub entries : List Entry
entries =
    entry 0 7001 0 0 ∷ entry 1 7002 8 1 ∷ entry 3 7003 0 0 ∷ entry 4 7004 0 0 ∷ entry 1 7005 13 2 ∷ entry 18446744073709551615 7006 23 0 ∷ last_entry ∷ []

-- on four rows with nothing in them, and an empty tally
unfoldable pub whole_day : List ℕ
whole_day = day_lines entries (replicate 4 (row_with 0 0 0)) empty

-- A PASS AND THEN A REFUSAL, from a tally of any counts: counted in place, and counted by value
unfoldable pub both_lines : Tally → List ℕ
both_lines t = count_line (tally_of t true) ++ count_line (tally_of (tally_of t true).tally false)

unfoldable pub from_lines : Tally → List ℕ
from_lines t = both_lines t ++ both_lines t

-- from tallies that are full or nearly so
unfoldable pub full_lines : List ℕ
full_lines =
    from_lines (tally 4294967294 4294967294 0) ++ from_lines (tally 4294967295 0 0) ++ from_lines (tally 5 4294967295 7)
    ++ from_lines (tally 5 7 4294967295)

-- ALL OF IT
unfoldable pub all_lines : List ℕ
all_lines = whole_day ++ full_lines
