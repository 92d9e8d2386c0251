-- A form: the text of a draft, a line for each field, in their order. What it gives is the draft's bytes, or the line that is wrong and the field that was
-- expected there. s is the text, b the bytes of a page that is lent for the draft.
-- Assumes nothing.
use Rattle.std.specs.Prelude.{ℕ, ◌+◌, Bool, cond, List, [], ◌∷◌, ◌++◌, eqb, leb, ltb, length, Result, Ok, Err}
use Rattle.octets.specs.Parts.{pasted}
use Rattle.form.specs.declared.FormError.{FormError}
use Rattle.form.specs.declared.FormError.TheVariants.{Wrong, TooLong}
use Rattle.form.specs.Lines.{lines_in, word_of, value_of}
use Rattle.form.specs.Fields.{field_count, is_field, field_bytes}

-- what reading gives: whether the text is a form, and the draft's bytes, or those of all fields before a wrong line
pub record Reading : Type 0 where
  pub formed : Result (Unit {0}) FormError
  pub bytes : List ℕ

abbrev pub reading : Result (Unit {0}) FormError → List ℕ → Reading
reading formed bytes = record { formed = formed; bytes = bytes }

-- a line with no word has nothing but blanks and a comment
unfoldable pub is_passed_over : List ℕ → Bool
is_passed_over l = eqb (length (word_of l)) 0

-- the lines from line n on, where field k is expected next and the fields before it gave the bytes d
unfoldable pub read_from : ℕ → ℕ → List ℕ → List (List ℕ) → Reading
read_from n k d [] = reading (cond (ltb k field_count) (Err (Wrong n k)) (Ok tt)) d
read_from n k d (l ∷ ls) =
    cond (is_passed_over l) (read_from (n + 1) k d ls)
    (cond (is_field k l) (read_from (n + 1) (k + 1) (d ++ field_bytes k (value_of l)) ls) (reading (Err (Wrong n k)) d))

-- how long a text may be
abbrev pub most_text : ℕ
most_text = 65536

-- ALL OF IT: lines and fields are counted from 1 and from 0
unfoldable pub reading_of : List ℕ → Reading
reading_of s = cond (leb (length s) most_text) (read_from 1 0 [] (lines_in s)) (reading (Err TooLong) [])

-- the lent page, where nothing stood on it: what was read stands at its start, and behind that it is as it was
unfoldable pub draft_after : List ℕ → List ℕ → List ℕ
draft_after s b = pasted 0 (reading_of s).bytes b
