-- What is told of a wrong form: a line of text, which names the line and the field that was expected there.
-- Assumes nothing.
use Rattle.std.specs.Prelude.{ℕ, cond, List, ◌++◌, ltb}
use Rattle.text.specs.Words.{ascii}
use Rattle.text.specs.Decimal.{decimal}
use Rattle.form.specs.declared.fields.Kind.{Kind}
use Rattle.form.specs.declared.fields.Kind.TheVariants.{Amount, Position, Hex, Proof}
use Rattle.form.specs.declared.FormError.{FormError}
use Rattle.form.specs.declared.FormError.TheVariants.{Wrong, TooLong}
use Rattle.form.specs.Fields.{most_amount, most_position, field_count, field_at}

-- what a field's value can be
unfoldable pub kind_words : Kind → List ℕ
kind_words Amount = ascii "a whole number up to " ++ decimal most_amount
kind_words Position = ascii "a whole number up to " ++ decimal most_position
kind_words (Hex n) = ascii "with " ++ decimal n ++ ascii " hexadecimal digits"
kind_words Proof = ascii "with 592 or 384 hexadecimal digits"

-- what field k asks for; behind the last, nothing
unfoldable pub field_words : ℕ → List ℕ
field_words k =
    cond (ltb k field_count) ((field_at k).name ++ ascii " is expected here, " ++ kind_words (field_at k).kind) (ascii "nothing is expected behind phi")

unfoldable pub wrong_line : ℕ → ℕ → List ℕ
wrong_line n k = ascii "line " ++ decimal n ++ ascii ": " ++ field_words k ++ ascii "\n"

-- the whole line
unfoldable pub fault_line : FormError → List ℕ
fault_line (Wrong n k) = wrong_line n k
fault_line TooLong = ascii "text: more than 65536 bytes\n"
