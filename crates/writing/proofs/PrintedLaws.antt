-- What is printed, by what reading and the desk gave.
-- Assumes nothing.
use Prim.Native.Nat.{ℕ, ◌≤◌}
use mathlib.Core.Path.{◌≡◌, sym, ap, ◌∙◌}
use mathlib.Core.Bool.{true, false}
use mathlib.Core.List.{List, ◌++◌, append-nil}
use native.Mathlib.Omega.{arith}
use lib.ListN.{length, take, length-append}
use lib.Seq.{take_at}
use Rattle.refusals.specs.declared.Answer.{Answer}
use Rattle.refusals.specs.Rules.{is_accepted}
use Rattle.text.specs.Words.{ascii}
use Rattle.text.specs.Answers.{answer_line}
use Rattle.desk.specs.Drafts.{desk_answer, written, buffer_after}
use Rattle.form.specs.declared.FormError.{FormError}
use Rattle.std.specs.Prelude.{Ok, Err}
use Rattle.form.specs.Forms.{reading_of}
use Rattle.form.specs.Faults.{fault_line}
use Rattle.writing.specs.Printed.{answered, case_text, text_for, printed_of}

-- b is the buffer that the case is written to, m that buffer then, a the desk's answer
module _ (d b m : List ℕ) (a : Answer) (l : length b ≡ length d) (e : a ≡ desk_answer d (length b)) (f : m ≡ buffer_after d b) where
  own : a ≡ desk_answer d (length d)
  own = e ∙ ap (desk_answer d) l

  pub accepted_case : is_accepted a ≡ true → answer_line (ascii "desk") a ++ m ≡ case_text d
  unfolding case_text answered buffer_after
  accepted_case h =
      let w : m ≡ written d = f ∙ rw (sym e, h) in
      rw (sym own, h, w)

  pub refused_case : is_accepted a ≡ false → answer_line (ascii "desk") a ≡ case_text d
  unfolding case_text answered
  refused_case h = rw (sym own, h) (sym (append-nil (answer_line (ascii "desk") a)))

-- by what reading gave
pub of_draft : (s : List ℕ) → (reading_of s).formed ≡ Ok tt → case_text (reading_of s).bytes ≡ printed_of s
unfolding printed_of text_for
of_draft s h = rw h

pub of_fault : (s : List ℕ) (e : FormError) → (reading_of s).formed ≡ Err e → fault_line e ≡ printed_of s
unfolding printed_of text_for
of_fault s e h = rw h

-- a list at the start of another, as code cuts it out
pub record Front (p m : List ℕ) (n : ℕ) : Type 0 where
  pub text : take n m ≡ p
  pub inside : n ≤ length m
  pub long : n ≡ length (take n m)

pub front : (p q : List ℕ) (n : ℕ) → length p ≡ n → Front p (p ++ q) n
front p q n h =
    let e = take_at p q n h in
    record { text = e; inside = omega (arith, length-append p q); long = sym (ap length e ∙ h) }
