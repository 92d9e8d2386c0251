-- Bytes as text: two hexadecimal digits each, the high one first, in the bytes' order. The digits above 9 are small letters.
-- Assumes nothing.
use Rattle.std.specs.Prelude.{ℕ, ◌+◌, ◌/◌, ◌%◌, cond, ltb}
use mathlib.Core.List.{List, [], ◌∷◌, flat_map}
use Rattle.octets.specs.Numbers.{big_bytes}

-- the code of a digit: 0 to 9, then a to f
unfoldable pub hex_digit : ℕ → ℕ
hex_digit d = cond (ltb d 10) (48 + d) (87 + d)

unfoldable pub hex_byte : ℕ → List ℕ
hex_byte x = hex_digit (x / 16) ∷ hex_digit (x % 16) ∷ []

unfoldable pub hex : List ℕ → List ℕ
hex bytes = flat_map hex_byte bytes

-- a number of 64 bits: 16 digits, the highest first
unfoldable pub hex64 : ℕ → List ℕ
hex64 n = hex (big_bytes 8 n)
