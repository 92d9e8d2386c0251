-- What the writer prints for a form: the line that tells what is wrong with it; or the desk's answer as a line, and right behind it the bytes of the case, where
-- it was written. s is the text, d a draft.
-- Assumes nothing.
use Rattle.std.specs.Prelude.{ℕ, cond, List, [], ◌++◌, length, Result, Ok, Err}
use Rattle.refusals.specs.declared.Answer.{Answer}
use Rattle.refusals.specs.Rules.{is_accepted}
use Rattle.text.specs.Words.{ascii}
use Rattle.text.specs.Answers.{answer_line}
use Rattle.desk.specs.Drafts.{desk_answer, written}
use Rattle.form.specs.declared.FormError.{FormError}
use Rattle.form.specs.Forms.{reading_of}
use Rattle.form.specs.Faults.{fault_line}

-- of a draft, with the desk's answer to it
unfoldable pub answered : List ℕ → Answer → List ℕ
answered d a = answer_line (ascii "desk") a ++ cond (is_accepted a) (written d) []

-- the case is written to a buffer as long as the draft
unfoldable pub case_text : List ℕ → List ℕ
case_text d = answered d (desk_answer d (length d))

-- of what reading gave
unfoldable pub text_for : Result (Unit {0}) FormError → List ℕ → List ℕ
text_for (Ok u) d = case_text d
text_for (Err e) d = fault_line e

-- ALL OF IT
unfoldable pub printed_of : List ℕ → List ℕ
printed_of s = text_for (reading_of s).formed (reading_of s).bytes
