-- Forms, lines and faults, byte by byte.
-- Assumes nothing.
use mathlib.Core.Path.{◌≡◌, refl}
use mathlib.Core.Bool.{true, false}
use mathlib.Core.List.{[], ◌∷◌, flat_map}
use native.Mathlib.Omega.{arith}
use Rattle.std.specs.Prelude.{Err}
use Rattle.octets.specs.Numbers.{little_bytes}
use Rattle.octets.specs.Parts.{same}
use Rattle.text.specs.Words.{ascii}
use Rattle.text.specs.Decimal.{decimal, decimal_within}
use Rattle.text.proofs.DecimalLaws.{decimal_within_lem}
use Rattle.form.specs.declared.fields.Kind.TheVariants.{Amount, Position, Hex}
use Rattle.form.specs.declared.FormError.TheVariants.{Wrong}
use Rattle.form.specs.Lines.{is_blank, stops_at, up_to, from, with_first, lines_in, content_of, word_of, ink_of, value_of}
use Rattle.form.specs.Digits.{every, is_within, is_digit, number_from, is_number, worth, is_hex_digit, is_hex, bytes_in}
use Rattle.form.specs.Fields.{accepts, bytes_of, fields, field_at, is_field, field_bytes}
use Rattle.form.specs.Forms.{reading, is_passed_over, read_from, reading_of}
use Rattle.form.specs.Faults.{kind_words, field_words, wrong_line, fault_line}

-- a text's lines: each end ends one, and the last may lack its end
pub two_lines : lines_in (ascii "a\n\nb") ≡ ascii "a" ∷ [] ∷ ascii "b" ∷ []
unfolding lines_in with_first stops_at
two_lines = refl

pub last_end : lines_in (ascii "a\n") ≡ ascii "a" ∷ []
unfolding lines_in with_first stops_at
last_end = refl

-- a line: its word, and its value without blanks and comment
pub word : word_of (ascii "\t seed  00 ff # of the scheme") ≡ ascii "seed"
unfolding word_of content_of up_to from stops_at is_blank
word = refl

pub value : value_of (ascii "\t seed  00 ff # of the scheme") ≡ ascii "00ff"
unfolding value_of ink_of content_of up_to from stops_at is_blank flat_map
value = refl

pub comment : is_passed_over (ascii "  # seed 00") ≡ true
unfolding is_passed_over word_of content_of up_to from stops_at is_blank
comment = refl

-- values
pub letters : bytes_in (ascii "09afAF") ≡ 9 ∷ 175 ∷ 175 ∷ []
unfolding bytes_in worth is_digit is_within
letters = refl

pub most : accepts Amount (ascii "0018446744073709551615") ≡ true
unfolding accepts is_number every is_digit is_within number_from
most = refl

pub one_more : accepts Amount (ascii "18446744073709551616") ≡ false
unfolding accepts is_number every is_digit is_within number_from
one_more = refl

pub most_position_lem : accepts Position (ascii "4294967295") ≡ true
unfolding accepts is_number every is_digit is_within number_from
most_position_lem = refl

pub one_more_position : accepts Position (ascii "4294967296") ≡ false
unfolding accepts is_number every is_digit is_within number_from
one_more_position = refl

pub nothing : accepts Amount [] ≡ false
unfolding accepts is_number
nothing = refl

pub too_few : accepts (Hex 4) (ascii "00f") ≡ false
unfolding accepts is_hex
too_few = refl

pub no_digit : accepts (Hex 4) (ascii "00fg") ≡ false
unfolding accepts is_hex every is_hex_digit worth is_digit is_within
no_digit = refl

-- the lowest byte first
pub amount : bytes_of Amount (ascii "10000") ≡ 16 ∷ 39 ∷ 0 ∷ 0 ∷ 0 ∷ 0 ∷ 0 ∷ 0 ∷ []
unfolding bytes_of number_from little_bytes
amount = refl

-- what was read of a form stands in the draft, and the first line that is wrong is told
pub wrong_name : reading_of (ascii "# a form\nvpub_old 258\nanchor 00\n") ≡ reading (Err (Wrong 3 1)) (2 ∷ 1 ∷ 0 ∷ 0 ∷ 0 ∷ 0 ∷ 0 ∷ 0 ∷ [])
unfolding reading_of read_from is_passed_over is_field field_bytes field_at fields accepts bytes_of same lines_in with_first word_of value_of ink_of content_of up_to from stops_at is_blank is_number every is_digit is_within number_from little_bytes flat_map
wrong_name = refl

-- a text that ends too early is wrong behind its last line
pub too_short : reading_of (ascii "\n\n") ≡ reading (Err (Wrong 3 0)) []
unfolding reading_of read_from is_passed_over lines_in with_first word_of content_of up_to from stops_at is_blank
too_short = refl

-- faults
pub number : fault_line (Wrong 3 13) ≡ ascii "line 3: old_1_position is expected here, a whole number up to 4294967295\n"
unfolding fault_line wrong_line field_words kind_words field_at fields decimal_within
number = rw (decimal_within_lem 0 3 (omega arith), decimal_within_lem 9 4294967295 (omega arith))

pub hexadecimal : fault_line (Wrong 7 2) ≡ ascii "line 7: anchor is expected here, with 64 hexadecimal digits\n"
unfolding fault_line wrong_line field_words kind_words field_at fields decimal decimal_within
hexadecimal = refl

pub either_edition : fault_line (Wrong 9 5) ≡ ascii "line 9: proof is expected here, with 592 or 384 hexadecimal digits\n"
unfolding fault_line wrong_line field_words kind_words field_at fields decimal decimal_within
either_edition = refl

pub behind : fault_line (Wrong 47 28) ≡ ascii "line 47: nothing is expected behind phi\n"
unfolding fault_line wrong_line field_words decimal decimal_within
behind = refl
