-- Entering changes one row and no other.
-- Assumes nothing.
use Prim.Native.Nat.{ℕ, ◌≤◌, ◌<◌}
use mathlib.Core.Path.{◌≡◌, refl, sym}
use mathlib.Core.Bool.{Bool, true, false}
use mathlib.Core.List.{List}
use mathlib.Core.Logic.{◌≢◌}
use borrow.Author.Tests.{lt-ltb, le-ltb, ltb-false}
use lib.ListN.{length, get_or, set, length-set}
use lib.Seq.{set_out, get_or-set_same, get_or-set_other}
use Rattle.books.specs.declared.DayRow.{DayRow}
use Rattle.books.specs.DayList.{is_on, with_day_row}

module _ (i : ℕ) (r : DayRow) (rows : List DayRow) where
  pub entered_on : i < length rows → with_day_row i r rows ≡ set rows i r
  unfolding with_day_row
  entered_on h = rw (lt-ltb i (length rows) h)

  pub entered_past : length rows ≤ i → with_day_row i r rows ≡ rows
  unfolding with_day_row
  entered_past h = rw (le-ltb i (length rows) h)

  pub entered_set : with_day_row i r rows ≡ set rows i r
  unfolding with_day_row
  entered_set = at (is_on i rows) refl
    where
      at : (b : Bool) → is_on i rows ≡ b → with_day_row i r rows ≡ set rows i r
      at true e = rw e
      at false e = rw e (sym (set_out rows i r (ltb-false i (length rows) e)))

  -- no row comes or goes
  pub entered_length : length (with_day_row i r rows) ≡ length rows
  entered_length = rw entered_set (length-set rows i r)

  -- the row of that number is the new one, and every other is as it was
  pub entered_here : (d : DayRow) → i < length rows → get_or (with_day_row i r rows) i d ≡ r
  entered_here d h = rw entered_set (get_or-set_same rows i r d h)

  pub entered_other : (j : ℕ) (d : DayRow) → j ≢ i → get_or (with_day_row i r rows) j d ≡ get_or rows j d
  entered_other j d h = rw entered_set (get_or-set_other rows i j r d h)
