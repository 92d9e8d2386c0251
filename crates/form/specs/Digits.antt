-- What digits say: a whole number in decimal, or bytes in hexadecimal. s is the digits, codes of ASCII.
-- Assumes nothing.
use Rattle.std.specs.Prelude.{ℕ, ◌+◌, ◌-◌, ◌*◌, Bool, true, cond, not, ◌&&◌, List, [], ◌∷◌, eqb, leb, ltb, length}
unfoldable pub use Rattle.text.specs.Decimal.{number_from}

unfoldable pub every : (ℕ → Bool) → List ℕ → Bool
every f [] = true
every f (x ∷ s) = f x && every f s

unfoldable pub is_within : ℕ → ℕ → ℕ → Bool
is_within low high x = leb low x && leb x high

-- A NUMBER, the highest digit first
unfoldable pub is_digit : ℕ → Bool
is_digit x = is_within 48 57 x

-- one digit or more, and leading zeros are allowed
unfoldable pub is_number : ℕ → List ℕ → Bool
is_number most s = not (eqb (length s) 0) && (every is_digit s && leb (number_from 0 s) most)

-- BYTES, two digits each, the high one first; letters may be small or large. What a digit is worth, and 16 for what is none
unfoldable pub worth : ℕ → ℕ
worth x = cond (is_digit x) (x - 48) (cond (is_within 97 102 x) (x - 87) (cond (is_within 65 70 x) (x - 55) 16))

unfoldable pub is_hex_digit : ℕ → Bool
is_hex_digit x = ltb (worth x) 16

-- n digits
unfoldable pub is_hex : ℕ → List ℕ → Bool
is_hex n s = eqb (length s) n && every is_hex_digit s

unfoldable pub bytes_in : List ℕ → List ℕ
bytes_in [] = []
bytes_in (x ∷ []) = []
bytes_in (x ∷ y ∷ s) = (16 * worth x + worth y) ∷ bytes_in s
