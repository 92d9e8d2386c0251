-- Text cut at a byte, and the words of a line: what stands between its spaces. Words are counted from 0; a line without a space is one word.
-- Assumes nothing.
use Rattle.std.specs.Prelude.{ℕ, zero, suc, ◌+◌, cond, List, [], ◌∷◌, take, drop, ◌==◌}

-- where the first x of s stands; the length of s where it has none
unfoldable pub place_of : ℕ → List ℕ → ℕ
place_of x [] = 0
place_of x (y ∷ s) = cond (y == x) 0 (suc (place_of x s))

-- what stands before the first x, and what stands behind it; without an x, that is all and nothing
unfoldable pub up_to : ℕ → List ℕ → List ℕ
up_to x s = take (place_of x s) s

unfoldable pub behind : ℕ → List ℕ → List ℕ
behind x s = drop (place_of x s + 1) s

-- how many there are of it
unfoldable pub counted : ℕ → List ℕ → ℕ
counted x [] = 0
counted x (y ∷ s) = cond (y == x) (suc (counted x s)) (counted x s)

abbrev pub space : ℕ
space = 32

abbrev pub line_end : ℕ
line_end = 10

-- the line from word k on, and word k itself; a word that the line does not have is empty
unfoldable pub from_word : ℕ → List ℕ → List ℕ
from_word zero line = line
from_word (suc k) line = behind space (from_word k line)

unfoldable pub word : ℕ → List ℕ → List ℕ
word k line = up_to space (from_word k line)
