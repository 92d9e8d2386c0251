-- Words, seals and whole texts, byte by byte: lists of tests that antt computes. A number is written by its pattern, as IEEE 754 has it.
-- Assumes nothing.
use Rattle.std.proofs.Common.{◌≡◌, ℕ, Bool, true, not, ◌&&◌, eqb, List, [], ◌∷◌, ◌++◌, refl}
use Prim.Native.String.{String}
use mathlib.Core.List.{foldr}
use lib.Ieee
use lib.Ieee.{binary64, to_bits}
use Rattle.octets.specs.Parts.{same}
use Rattle.octets.specs.Numbers.{little_bytes}
use Rattle.octets.specs.Rows.{flat}
use Rattle.text.specs.Words.{ascii}
use Rattle.text.specs.Decimal.{decimal, decimal_within}
use Rattle.packing.specs.Words.{place_of, up_to, behind, counted, from_word, word}
use Rattle.packing.specs.Decimals.{is_digit, all_digits, is_digits, number_from, is_length, length_of, is_negative, unsigned, is_unsigned, is_number, digits_of, scale_of, quotient_of, number_of}
use Rattle.packing.specs.Seals.{float_bytes, seal_bytes, kind_named, gate_in, raw_in}
use Rattle.packing.specs.Bags.{row, rows_from, bag_of, parts}
use Rattle.packing.specs.Packing.{case_count, sizes_from, sum, bag_in, is_fit, first_unfit, bytes_verdict, word_verdict, line_verdict, verdict_of, packed_from, text_by, text_of}

-- NUMBERS
abbrev says : String → ℕ → Bool
says w bits = is_number (ascii w) && eqb (to_bits binary64 (number_of (ascii w))) bits

abbrev none : String → Bool
none w = not (is_number (ascii w))

abbrev numbers : List Bool
numbers =
    says "51" 0x4049800000000000
    ∷ says "100" 0x4059000000000000
    ∷ says "0.5" 0x3fe0000000000000
    ∷ says "-0.25" 0xbfd0000000000000
    ∷ says "0.1" 0x3fb999999999999a
    ∷ says "50.5" 0x4049400000000000
    ∷ says "007" 0x401c000000000000
    ∷ says "-0" 0x8000000000000000
    ∷ says "999999999999999" 0x430c6bf52633fff8
    ∷ says "0.00000000000001" 0x3d06849b86a12b9b
    ∷ none ""
    ∷ none "-"
    ∷ none "5."
    ∷ none ".5"
    ∷ none "1.2.3"
    ∷ none "--1"
    ∷ none "+1"
    ∷ none "1e3"
    ∷ none "1000000000000000"
    ∷ none "0.123456789012345"
    ∷ []

pub marked_numbers : foldr ◌&&◌ true numbers ≡ true
unfolding is_digit all_digits is_digits number_from is_negative unsigned is_unsigned is_number digits_of scale_of quotient_of number_of place_of up_to behind Ieee.of_int Ieee.div Ieee.neg Ieee.to_bits
marked_numbers = refl

-- TEXTS: a bag of a seal and two cases, one of them empty; and of each refusal the line, at the edge where there is one
abbrev gives : String → List ℕ → Bool
gives input bytes = same (text_of (ascii input)) bytes

abbrev told : String → String → Bool
told input line = gives input (ascii line)

abbrev bag : List ℕ
bag =
    3 ∷ 0
    ∷ 1 ∷ 29 ∷ 0 ∷ 0 ∷ 0 ∷ 25 ∷ 0 ∷ 0 ∷ 0
    ∷ 2 ∷ 54 ∷ 0 ∷ 0 ∷ 0 ∷ 3 ∷ 0 ∷ 0 ∷ 0
    ∷ 2 ∷ 57 ∷ 0 ∷ 0 ∷ 0 ∷ 0 ∷ 0 ∷ 0 ∷ 0
    ∷ 1
    ∷ 0 ∷ 0 ∷ 0 ∷ 0 ∷ 0 ∷ 0x80 ∷ 0x49 ∷ 0x40
    ∷ 0 ∷ 0 ∷ 0 ∷ 0 ∷ 0 ∷ 0 ∷ 0 ∷ 0
    ∷ 0 ∷ 0 ∷ 0 ∷ 0 ∷ 0 ∷ 0 ∷ 0x59 ∷ 0x40
    ∷ ascii "abc"

abbrev texts : List Bool
texts =
    gives "at-least 51 100 cases 3 0\nabc" (ascii "bag 0 0\n" ++ bag)
    ∷ told "" "seal: word 1 is no gate: none, at-least or between\n"
    ∷ told "at_least 51 100 cases\n" "seal: word 1 is no gate: none, at-least or between\n"
    ∷ told "none 1 cases 0 0 0 0 0 0 0 0\n" "bag: more than 7 cases\n"
    ∷ told "none cases\n" "seal: word 2 is no number\n"
    ∷ told "at-least 51 cases 3\nabc" "seal: word 3 is no number\n"
    ∷ told "between 40 5o 45 cases\n" "seal: word 3 is no number\n"
    ∷ told "none  100 cases\n" "seal: word 2 is no number\n"
    ∷ told "none 100 0 cases 3\nabc" "seal: word 3 is one too many: 'cases' comes there\n"
    ∷ told "none 100" "seal: word 3 is one too many: 'cases' comes there\n"
    ∷ told "none 100 cases 3.0\nabc" "bag: word 4 is no length\n"
    ∷ told "none 100 cases \n" "bag: word 4 is no length\n"
    ∷ told "none 100 cases 65492\n" "bag: more than 65536 bytes\n"
    ∷ told "none 100 cases 65491\n" "bag: the cases have 0 bytes, 65491 were named\n"
    ∷ told "none 100 cases 1 1\nabc" "bag: the cases have 3 bytes, 2 were named\n"
    ∷ []

pub marked_texts : foldr ◌&&◌ true texts ≡ true
unfolding is_digit all_digits is_digits number_from is_length length_of is_negative unsigned is_unsigned is_number digits_of scale_of quotient_of number_of place_of up_to behind counted from_word word Ieee.of_int Ieee.div Ieee.neg Ieee.to_bits little_bytes flat same decimal decimal_within float_bytes seal_bytes kind_named gate_in raw_in row rows_from bag_of parts case_count sizes_from sum bag_in is_fit first_unfit bytes_verdict word_verdict line_verdict verdict_of packed_from text_by text_of
marked_texts = refl
