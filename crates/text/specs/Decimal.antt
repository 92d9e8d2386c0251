-- Numbers as text: the digits of ASCII, the highest first, no leading zeros; 0 is one digit.
-- Assumes nothing.
use Rattle.std.specs.Prelude.{ℕ, zero, suc, ◌+◌, ◌-◌, ◌*◌, ◌/◌, ◌%◌, cond, List, [], ◌∷◌, ◌++◌, ltb}

-- the code of a digit
abbrev pub digit : ℕ → ℕ
digit d = 48 + d

-- n in decimal, in at most k digits
unfoldable pub decimal_within : ℕ → ℕ → List ℕ
decimal_within zero n = []
decimal_within (suc k) n = cond (ltb n 10) (digit n ∷ []) (decimal_within k (n / 10) ++ (digit (n % 10) ∷ []))

-- n in decimal: it has at most n + 1 digits
unfoldable pub decimal : ℕ → List ℕ
decimal n = decimal_within (suc n) n

-- the number that digits say, leading zeros too, behind digits that said v
unfoldable pub number_from : ℕ → List ℕ → ℕ
number_from v [] = v
number_from v (x ∷ s) = number_from (v * 10 + (x - 48)) s
