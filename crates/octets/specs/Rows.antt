-- Rows of 32 bytes, one after the other in memory: how tables, paths and tree records are laid out.
-- Assumes nothing.
use Rattle.std.specs.Prelude.{ℕ, zero, suc, ◌≡◌, List, [], ◌∷◌, ◌++◌, length, take, drop}

-- the first n rows of some bytes
unfoldable pub rows_of : ℕ → List ℕ → List (List ℕ)
rows_of zero t = []
rows_of (suc n) t = take 32 t ∷ rows_of n (drop 32 t)

-- the bytes of some rows
unfoldable pub flat : List (List ℕ) → List ℕ
flat [] = []
flat (r ∷ rs) = r ++ flat rs

-- each row has 32 bytes
unfoldable pub Long : List (List ℕ) → Type 0
Long [] = Unit {0}
Long (r ∷ rs) = (length r ≡ 32) × Long rs
