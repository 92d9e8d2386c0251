-- Numbers, bytes and answers as text, byte by byte.
-- Assumes nothing.
use mathlib.Core.Path.{◌≡◌, refl}
use mathlib.Core.List.{[], ◌∷◌, flat_map}
use Rattle.octets.specs.Numbers.{big_bytes}
use Rattle.refusals.specs.Rules.{answer, answer_in_row}
use Rattle.text.specs.Words.{ascii}
use Rattle.text.specs.Decimal.{decimal, decimal_within}
use Rattle.text.specs.Hex.{hex_digit, hex_byte, hex, hex64}
use Rattle.text.specs.Answers.{answer_words, answer_line, spent_row_line, answer_and_row}

pub zero : decimal 0 ≡ ascii "0"
unfolding decimal decimal_within
zero = refl

pub ten : decimal 10 ≡ ascii "10"
unfolding decimal decimal_within
ten = refl

pub bytes : hex (0 ∷ 9 ∷ 10 ∷ 255 ∷ []) ≡ ascii "00090aff"
unfolding hex hex_byte hex_digit flat_map
bytes = refl

pub number : hex64 0x3ff0000000000000 ≡ ascii "3ff0000000000000"
unfolding hex64 hex hex_byte hex_digit flat_map big_bytes
number = refl

pub refusal : answer_line (ascii "case") (answer 16 2) ≡ ascii "case 16 2\n"
unfolding answer_line answer_words decimal decimal_within
refusal = refl

-- a spent nullifier's row, counted from 0, has a line of its own; any other refusal has none
pub spent : answer_and_row (ascii "case") (answer_in_row 8 2 2045) ≡ ascii "case 8 2\nrow 2045\n"
unfolding answer_and_row spent_row_line answer_line answer_words decimal decimal_within
spent = refl

pub spent_at_the_top : answer_and_row (ascii "case") (answer_in_row 8 1 0) ≡ ascii "case 8 1\nrow 0\n"
unfolding answer_and_row spent_row_line answer_line answer_words decimal decimal_within
spent_at_the_top = refl

pub refusal_and_no_row : answer_and_row (ascii "case") (answer 16 2) ≡ ascii "case 16 2\n"
unfolding answer_and_row spent_row_line answer_line answer_words decimal decimal_within
refusal_and_no_row = refl
