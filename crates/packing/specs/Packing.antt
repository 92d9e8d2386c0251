-- What the packer makes of its input: a line with a seal's words, the word "cases" and the length of each case, and behind the line the bytes of the
-- cases.
-- Assumes nothing.
use Rattle.std.specs.Prelude.{ℕ, zero, suc, ◌+◌, ◌-◌, Bool, true, false, cond, List, [], ◌∷◌, ◌++◌, length, ◌==◌, nat_lt, Result, Ok, Err}
use Rattle.octets.specs.Parts.{same}
use Rattle.text.specs.Words.{ascii}
use Rattle.text.specs.Decimal.{decimal}
use Rattle.bag.specs.Contents.{most_bytes, row_start}
use Rattle.packing.specs.declared.PackingError.{PackingError}
use Rattle.packing.specs.declared.PackingError.TheVariants.{NoGate, TooManyCases, NoNumber, OneTooMany, NoLength, TooLong, OtherBytes}
use Rattle.packing.specs.Words.{up_to, behind, line_end, space, counted, word}
use Rattle.packing.specs.Decimals.{is_number, is_length, length_of}
use Rattle.packing.specs.Seals.{kind_named, seal_words, seal_of}
use Rattle.packing.specs.Bags.{bag_of, parts}

abbrev pub line_in : List ℕ → List ℕ
line_in input = up_to line_end input

abbrev pub bytes_in : List ℕ → List ℕ
bytes_in input = behind line_end input

abbrev pub kind_in : List ℕ → ℕ
kind_in line = kind_named (word 0 line)

-- behind the seal's words stands the word "cases", and behind that the length of each case. Each of these has a space in front of it, as all words
-- but the first have
unfoldable pub case_count : ℕ → List ℕ → ℕ
case_count kind line = counted space line - seal_words kind

abbrev pub first_length : ℕ → ℕ
first_length kind = kind + 3

-- the lengths that n words from word k on say, and their sum
unfoldable pub sizes_from : ℕ → ℕ → List ℕ → List ℕ
sizes_from zero k line = []
sizes_from (suc n) k line = length_of (word k line) ∷ sizes_from n (k + 1) line

unfoldable pub sum : List ℕ → ℕ
sum [] = 0
sum (x ∷ s) = x + sum s

abbrev pub sizes_in : ℕ → ℕ → List ℕ → List ℕ
sizes_in kind cases line = sizes_from cases (first_length kind) line

-- THE BAG: the seal, and the bytes cut into the cases
unfoldable pub bag_in : ℕ → ℕ → List ℕ → List ℕ → List ℕ
bag_in kind cases line bytes = bag_of (seal_of kind line ∷ parts (sizes_in kind cases line) bytes)

-- nothing is wrong, or what is wrong first
abbrev pub Verdict : Type 0
Verdict = Result (Unit {0}) PackingError

-- WHAT IS WRONG. Behind the gate's name a seal's words are numbers; then comes "cases"; then come lengths
unfoldable pub is_fit : ℕ → ℕ → List ℕ → Bool
is_fit kind k w = cond (nat_lt k (seal_words kind)) (is_number w) (cond (k == seal_words kind) (same w (ascii "cases")) (is_length w))

-- the first of n words from word k on that is not; k + n where all are
unfoldable pub first_unfit : ℕ → ℕ → ℕ → List ℕ → ℕ
first_unfit zero kind k line = k
first_unfit (suc n) kind k line = cond (is_fit kind k (word k line)) (first_unfit n kind (k + 1) line) k

-- the bag's length: its table's end, the seal, the cases
abbrev pub bag_length : ℕ → ℕ → ℕ
bag_length cases named = row_start (cases + 1) + 25 + named

-- by the cases' bytes: so many were named, so many are there
unfoldable pub bytes_verdict : ℕ → ℕ → ℕ → Verdict
bytes_verdict cases named there = cond (nat_lt most_bytes (bag_length cases named)) (Err TooLong) (cond (named == there) (Ok tt) (Err (OtherBytes there named)))

-- by the first unfit word, which the answer counts from 1
unfoldable pub word_verdict : ℕ → ℕ → ℕ → Verdict → Verdict
word_verdict kind cases k rest =
    cond (nat_lt k (seal_words kind)) (Err (NoNumber (k + 1)))
    (cond (k == seal_words kind) (Err (OneTooMany (k + 1)))
    (cond (nat_lt k (first_length kind + cases)) (Err (NoLength (k + 1))) rest))

unfoldable pub line_verdict : ℕ → ℕ → List ℕ → ℕ → Verdict
line_verdict kind cases line there =
    word_verdict kind cases (first_unfit (seal_words kind + cases) kind 1 line) (bytes_verdict cases (sum (sizes_in kind cases line)) there)

-- in order: the gate, the number of cases, the words, the bytes
unfoldable pub verdict_of : ℕ → ℕ → List ℕ → List ℕ → Verdict
verdict_of kind cases line bytes = cond (kind == 3) (Err NoGate) (cond (nat_lt 7 cases) (Err TooManyCases) (line_verdict kind cases line (length bytes)))

-- THE TEXT: a line that says whether there is a bag, and behind it the bag, if there is one
abbrev pub error_line : PackingError → List ℕ
error_line NoGate = ascii "seal: word 1 is no gate: none, at-least or between\n"
error_line TooManyCases = ascii "bag: more than 7 cases\n"
error_line (NoNumber k) = ascii "seal: word " ++ decimal k ++ ascii " is no number\n"
error_line (OneTooMany k) = ascii "seal: word " ++ decimal k ++ ascii " is one too many: 'cases' comes there\n"
error_line (NoLength k) = ascii "bag: word " ++ decimal k ++ ascii " is no length\n"
error_line TooLong = ascii "bag: more than 65536 bytes\n"
error_line (OtherBytes there named) = ascii "bag: the cases have " ++ decimal there ++ ascii " bytes, " ++ decimal named ++ ascii " were named\n"

abbrev pub head_for : Verdict → List ℕ
head_for (Ok u) = ascii "bag 0 0\n"
head_for (Err e) = error_line e

abbrev pub is_packed : Verdict → Bool
is_packed (Ok u) = true
is_packed (Err e) = false

unfoldable pub packed_from : ℕ → ℕ → List ℕ → List ℕ → List ℕ
packed_from kind cases line bytes =
    let v = verdict_of kind cases line bytes in
    head_for v ++ cond (is_packed v) (bag_in kind cases line bytes) []

unfoldable pub text_by : List ℕ → List ℕ → List ℕ
text_by line bytes =
    let kind = kind_in line in
    packed_from kind (case_count kind line) line bytes

unfoldable pub text_of : List ℕ → List ℕ
text_of input = text_by (line_in input) (bytes_in input)
