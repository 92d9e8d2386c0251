-- Numbers as a custodian writes them: digits, a point and more digits if there is a fraction, a minus in front if it is negative; and lengths, which
-- are digits alone. Either has at most 15 digits, so that the digits as a whole number, and the power of ten that the point stands for, are binary64
-- numbers exactly: their quotient is rounded once, and is the binary64 number nearest to what is written.
-- Assumes nothing.
use Rattle.std.specs.Prelude.{ℕ, ◌+◌, ◌^◌, Bool, true, cond, ◌&&◌, List, [], ◌∷◌, length, drop, pos, ◌==◌, nat_le, slice_index, Float}
use Rattle.std.specs.Float.{binary64}
use Rattle.std.specs.Float.Ieee.{of_int, div, neg}
unfoldable pub use Rattle.text.specs.Decimal.{number_from}
use Rattle.packing.specs.Words.{up_to, behind}

unfoldable pub is_digit : ℕ → Bool
is_digit x = nat_le 48 x && nat_le x 57

unfoldable pub all_digits : List ℕ → Bool
all_digits [] = true
all_digits (x ∷ s) = is_digit x && all_digits s

-- one digit or more, and nothing else
unfoldable pub is_digits : List ℕ → Bool
is_digits s = nat_le 1 (length s) && all_digits s

abbrev pub most_digits : ℕ
most_digits = 15

-- A LENGTH in bytes; a word that is none says 0
unfoldable pub is_length : List ℕ → Bool
is_length w = is_digits w && nat_le (length w) most_digits

unfoldable pub length_of : List ℕ → ℕ
length_of w = cond (is_length w) (number_from 0 w) 0

-- A NUMBER: its sign, and what stands before and behind the point
abbrev pub minus : ℕ
minus = 45

abbrev pub point : ℕ
point = 46

unfoldable pub is_negative : List ℕ → Bool
is_negative w = slice_index w 0 == minus

unfoldable pub unsigned : List ℕ → List ℕ
unsigned w = cond (is_negative w) (drop 1 w) w

abbrev pub whole : List ℕ → List ℕ
whole u = up_to point u

abbrev pub fraction : List ℕ → List ℕ
fraction u = behind point u

-- digits alone; or digits, a point and digits, one byte more
unfoldable pub is_unsigned : List ℕ → Bool
is_unsigned u =
    is_digits (whole u)
    && cond (length (whole u) == length u) (nat_le (length u) most_digits) (nat_le (length u) (most_digits + 1) && is_digits (fraction u))

unfoldable pub is_number : List ℕ → Bool
is_number w = is_unsigned (unsigned w)

-- all its digits as a whole number, and the power of ten that they are divided by
unfoldable pub digits_of : List ℕ → ℕ
digits_of u = number_from (number_from 0 (whole u)) (fraction u)

unfoldable pub scale_of : List ℕ → ℕ
scale_of u = 10 ^ length (fraction u)

abbrev pub float : ℕ → Float
float n = of_int binary64 (pos n)

unfoldable pub quotient_of : List ℕ → Float
quotient_of u = div binary64 (float (digits_of u)) (float (scale_of u))

-- the number; a word that is none says 0
unfoldable pub number_of : List ℕ → Float
number_of w = cond (is_number w) (cond (is_negative w) (neg (quotient_of (unsigned w))) (quotient_of (unsigned w))) (float 0)
