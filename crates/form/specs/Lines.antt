-- A text as lines, and a line as a word and what follows it. s is some bytes, l a line without its end.
-- Assumes nothing.
use Rattle.std.specs.Prelude.{ℕ, Bool, cond, not, ◌||◌, eqb}
use mathlib.Core.List.{List, [], ◌∷◌, flat_map}

-- space, tab and carriage return
unfoldable pub is_blank : ℕ → Bool
is_blank x = eqb x 32 || eqb x 9 || eqb x 13

-- at what a part of a text stops
pub data Stop : Type 0 where
  End : Stop
  Mark : Stop
  Blank : Stop
  Ink : Stop

-- at which bytes a part of a text stops: at a line's end, at the mark of a comment, at a blank, or at what is no blank
unfoldable pub stops_at : Stop → ℕ → Bool
stops_at End x = eqb x 10
stops_at Mark x = eqb x 35
stops_at Blank x = is_blank x
stops_at Ink x = not (is_blank x)

-- the bytes before the first at which it stops, and the bytes from that one on
unfoldable pub up_to : Stop → List ℕ → List ℕ
up_to e [] = []
up_to e (x ∷ s) = cond (stops_at e x) [] (x ∷ up_to e s)

unfoldable pub from : Stop → List ℕ → List ℕ
from e [] = []
from e (x ∷ s) = cond (stops_at e x) (x ∷ s) (from e s)

-- THE LINES OF A TEXT: each end ends one, and the last may lack its end
unfoldable pub with_first : ℕ → List (List ℕ) → List (List ℕ)
with_first x [] = (x ∷ []) ∷ []
with_first x (l ∷ ls) = (x ∷ l) ∷ ls

unfoldable pub lines_in : List ℕ → List (List ℕ)
lines_in [] = []
lines_in (x ∷ s) = cond (stops_at End x) ([] ∷ lines_in s) (with_first x (lines_in s))

-- OF A LINE, what counts: all before a comment, from its first word on; that word; and what follows the word, its blanks left out
unfoldable pub content_of : List ℕ → List ℕ
content_of l = from Ink (up_to Mark l)

unfoldable pub word_of : List ℕ → List ℕ
word_of l = up_to Blank (content_of l)

unfoldable pub ink_of : ℕ → List ℕ
ink_of x = cond (is_blank x) [] (x ∷ [])

unfoldable pub value_of : List ℕ → List ℕ
value_of l = flat_map ink_of (from Blank (content_of l))
