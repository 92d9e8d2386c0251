-- THE CASE SAYS WHAT THE FORM SAYS. A form's fields are the desk's inputs, all of them and in their order; so where a form is read, the case that the desk
-- writes has in each of these fields the value of the form's own line for it. What is in the other fields is the desk's theorem.
-- Assumes nothing.
use Prim.Native.Nat.{ℕ, zero, suc, ◌<◌}
use mathlib.Core.Path.{◌≡◌, refl, ◌∙◌}
use mathlib.Core.Bool.{true, cond}
use mathlib.Core.List.{List, [], ◌∷◌, ◌++◌}
use Rattle.casefile.specs.Layout.{part_of}
use Rattle.desk.specs.Inputs.{is_worked_out, is_input}
use Rattle.desk.specs.Drafts.{written}
use Rattle.desk.proofs.ReadBack.{inputs_back}
use Rattle.std.specs.Prelude.{Ok}
use Rattle.form.specs.Lines.{value_of}
use Rattle.form.specs.Fields.{bytes_of, field_at}
use Rattle.form.specs.Forms.{reading_of}
use Rattle.form.proofs.FieldLaws.{all_below, at}
use Rattle.form.proofs.Places.{places, place}
use Rattle.form.proofs.DraftLaws.{has_length_lem}
use Rattle.form.proofs.ReadBack.{line_of, said}

-- the inputs among the first n fields of a case
unfoldable pub inputs_below : ℕ → List ℕ
inputs_below zero = []
inputs_below (suc n) = inputs_below n ++ cond (is_input n) (n ∷ []) []

pub all_inputs : inputs_below 38 ≡ places
unfolding inputs_below is_input is_worked_out places
all_inputs = refl

each_input : all_below (λ k. is_input (place k)) 28 ≡ true
unfolding all_below is_input is_worked_out place places
each_input = refl

pub case_says : (s : List ℕ) → (reading_of s).formed ≡ Ok tt → (k : ℕ) → k < 28
    → part_of (place k) (written (reading_of s).bytes) ≡ bytes_of (field_at k).kind (value_of (line_of s k))
case_says s q k h = (inputs_back (reading_of s).bytes (has_length_lem s q)).inputs (place k) (at _ 28 each_input k h) ∙ (said s q).draft k h
