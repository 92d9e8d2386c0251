-- A bag from its bodies, the seal's first: the count, the table of contents, the bodies.
-- Assumes nothing.
use Rattle.std.specs.Prelude.{ℕ, ◌+◌, List, [], ◌∷◌, ◌++◌, map, length, take, drop}
use Rattle.octets.specs.Numbers.{little_bytes}
use Rattle.octets.specs.Rows.{flat}
use Rattle.bag.specs.Contents.{row_start, kind_at}

-- a row: a byte for the body's kind, four for where it starts and four for how long it is
unfoldable pub row : ℕ → ℕ → ℕ → List ℕ
row kind at size = kind ∷ little_bytes 4 at ++ little_bytes 4 size

-- the rows from row i on, by the bodies' sizes; the first of these bodies starts at index at, and they touch
unfoldable pub rows_from : ℕ → ℕ → List ℕ → List ℕ
rows_from i at [] = []
rows_from i at (size ∷ sizes) = row (kind_at i) at size ++ rows_from (i + 1) (at + size) sizes

-- THE BAG
unfoldable pub bag_of : List (List ℕ) → List ℕ
bag_of bodies = little_bytes 2 (length bodies) ++ rows_from 0 (row_start (length bodies)) (map length bodies) ++ flat bodies

-- bytes cut into parts of given sizes
unfoldable pub parts : List ℕ → List ℕ → List (List ℕ)
parts [] s = []
parts (size ∷ sizes) s = take size s ∷ parts sizes (drop size s)
