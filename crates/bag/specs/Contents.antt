-- A bag's layout: the count, the table of contents with its nine-byte rows, and the bodies. b is the bag's bytes; rows are counted from 0.
-- Assumes nothing.
use Rattle.std.specs.Prelude.{ℕ, zero, suc, ◌+◌, ◌-◌, ◌*◌, Bool, cond, ◌&&◌, List, [], ◌∷◌, eqb, leb, length, get_or, take, drop}
use Rattle.octets.specs.Parts.{field}
use Rattle.octets.specs.Numbers.{little}
use Rattle.bag.specs.declared.Entry.{Entry}

-- how many rows the table of contents has, by the count in front of it
unfoldable pub row_count : List ℕ → ℕ
row_count b = little (field 0 2 b)

-- where row i starts; so the table of n rows ends where row n would start
abbrev pub row_start : ℕ → ℕ
row_start i = 2 + 9 * i

-- row i: a byte for the body's kind, then four for where it starts and four for how long it is
unfoldable pub entry_of : ℕ → List ℕ → Entry
entry_of i b =
    record {
      kind = get_or b (row_start i) 0;
      offset = little (field (row_start i + 1) 4 b);
      size = little (field (row_start i + 5) 4 b);
    }

-- row one is the seal, kind 1; later rows are cases, kind 2
abbrev pub kind_at : ℕ → ℕ
kind_at i = cond (eqb i 0) 1 2

-- n rows from row i on: each is of its kind, and its body starts at index at, which is where the body before it ended; the last body ends where the
-- bag does
unfoldable pub in_order : ℕ → ℕ → ℕ → List ℕ → Bool
in_order zero i at b = eqb at (length b)
in_order (suc n) i at b = eqb (entry_of i b).kind (kind_at i) && eqb (entry_of i b).offset at && in_order n (i + 1) (at + (entry_of i b).size) b

-- the longest bag, and the most rows
abbrev pub most_bytes : ℕ
most_bytes = 65536

abbrev pub most_rows : ℕ
most_rows = 8

-- the layout: not too long, one row or more and not too many, the first body right after the table
unfoldable pub laid_out : List ℕ → Bool
laid_out b = leb (length b) most_bytes && leb 1 (row_count b) && leb (row_count b) most_rows && in_order (row_count b) 0 (row_start (row_count b)) b

-- the body of row i
unfoldable pub body_of : ℕ → List ℕ → List ℕ
body_of i b = take (entry_of i b).size (drop (entry_of i b).offset b)

-- the bodies of n rows from row i on
unfoldable pub bodies_from : ℕ → ℕ → List ℕ → List (List ℕ)
bodies_from zero i b = []
bodies_from (suc n) i b = body_of i b ∷ bodies_from n (i + 1) b

-- the cases: all bodies but the first, the seal's
unfoldable pub cases_of : List ℕ → List (List ℕ)
cases_of b = bodies_from (row_count b - 1) 1 b
