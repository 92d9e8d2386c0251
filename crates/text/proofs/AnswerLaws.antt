-- No answer is printed as another: number and place are read back from its line, and the row from the line behind it.
-- Assumes nothing.
use Prim.Native.Nat.{ℕ}
use mathlib.Core.Path.{◌≡◌, sym, ap, ap₂, ◌∙◌}
use mathlib.Core.Bool.{true}
use mathlib.Core.List.{List, [], ◌∷◌, ◌++◌, append_assoc}
use lib.ListN.{length, drop}
use lib.Dec.{eqb}
use lib.Seq.{drop-append_seam}
use borrow.Author.Tests.{eqb-false}
use Rattle.refusals.specs.declared.Answer.{Answer}
use Rattle.refusals.specs.Rules.{answer, answer_in_row, without_row}
use Rattle.refusals.proofs.RuleLaws.{by_test}
use Rattle.text.specs.Words.{ascii, name_line}
use Rattle.text.specs.Decimal.{decimal}
use Rattle.text.specs.Answers.{answer_words, answer_line, spent_row_line, answer_and_row}
use Rattle.text.proofs.DecimalLaws.{read, behind, read_decimal, behind_decimal}

-- the line that names a run, from the pieces that the calls write
pub name_as : (name : List ℕ) → ascii "run " ++ (name ++ ascii "\n") ≡ name_line name
unfolding name_line
name_as name = sym (append_assoc (ascii "run ") name (ascii "\n"))

-- an answer likewise
pub answer_as : (word : List ℕ) (a : Answer) (n p : ℕ) → n ≡ a.number → p ≡ a.place
    → word ++ ((ascii " " ++ decimal n) ++ (ascii " " ++ decimal p)) ≡ answer_words word a
unfolding answer_words
answer_as word a n p h k = rw (h, k) (simp append_assoc)

-- what stands behind the word, where the text t follows the line
from_left : (w : List ℕ) (a : Answer) (t : List ℕ) → answer_line w a ++ t ≡ w ++ (32 ∷ (decimal a.number ++ (32 ∷ (decimal a.place ++ (10 ∷ t)))))
unfolding answer_line answer_words
from_left w a t = simp append_assoc

behind_word : (w : List ℕ) (a : Answer) (t : List ℕ)
    → drop (length w) (answer_line w a ++ t) ≡ 32 ∷ (decimal a.number ++ (32 ∷ (decimal a.place ++ (10 ∷ t))))
behind_word w a t = ap (drop (length w)) (from_left w a t) ∙ drop-append_seam w _

number_in : List ℕ → List ℕ → ℕ
number_in w line = read 0 (drop 1 (drop (length w) line))

behind_number : List ℕ → List ℕ → List ℕ
behind_number w line = behind (drop 1 (drop (length w) line))

place_in : List ℕ → List ℕ → ℕ
place_in w line = read 0 (drop 1 (behind_number w line))

-- behind the place, its line's end and the word of the next line
row_in : List ℕ → List ℕ → ℕ
row_in w lines = read 0 (drop 5 (behind (drop 1 (behind_number w lines))))

number_read : (w : List ℕ) (a : Answer) (t : List ℕ) → number_in w (answer_line w a ++ t) ≡ a.number
unfolding number_in read
number_read w a t = rw (behind_word w a t) (read_decimal a.number (32 ∷ (decimal a.place ++ (10 ∷ t))))

behind_number_lem : (w : List ℕ) (a : Answer) (t : List ℕ) → behind_number w (answer_line w a ++ t) ≡ 32 ∷ (decimal a.place ++ (10 ∷ t))
unfolding behind_number behind
behind_number_lem w a t = rw (behind_word w a t) (behind_decimal a.number (32 ∷ (decimal a.place ++ (10 ∷ t))))

place_read : (w : List ℕ) (a : Answer) (t : List ℕ) → place_in w (answer_line w a ++ t) ≡ a.place
unfolding place_in read
place_read w a t = rw (behind_number_lem w a t) (read_decimal a.place (10 ∷ t))

behind_place : (w : List ℕ) (a : Answer) (t : List ℕ) → behind (drop 1 (behind_number w (answer_line w a ++ t))) ≡ 10 ∷ t
unfolding behind
behind_place w a t = rw (behind_number_lem w a t) (behind_decimal a.place (10 ∷ t))

row_read : (w : List ℕ) (a : Answer) → eqb a.number 8 ≡ true → row_in w (answer_and_row w a) ≡ a.row.0
unfolding answer_and_row spent_row_line row_in read
row_read w a h = rw (behind_place w a (spent_row_line a), h) (read_decimal a.row.0 (10 ∷ []))

-- so of two lines that are alike the answers have the same number and place, whatever follows either
numbers_alike : (w : List ℕ) (a b : Answer) (s t : List ℕ) → answer_line w a ++ s ≡ answer_line w b ++ t → a.number ≡ b.number
numbers_alike w a b s t e = sym (number_read w a s) ∙ ap (number_in w) e ∙ number_read w b t

places_alike : (w : List ℕ) (a b : Answer) (s t : List ℕ) → answer_line w a ++ s ≡ answer_line w b ++ t → a.place ≡ b.place
places_alike w a b s t e = sym (place_read w a s) ∙ ap (place_in w) e ∙ place_read w b t

pub answers_apart : (w : List ℕ) (a b : Answer) → answer_line w a ≡ answer_line w b → without_row a ≡ without_row b
answers_apart w a b e =
    let f : answer_line w a ++ [] ≡ answer_line w b ++ [] = ap (λ (l : List ℕ). l ++ []) e in
    ap₂ answer (numbers_alike w a b [] [] f) (places_alike w a b [] [] f)

-- and where only 8 carries a row, the same row
rows_alike : (w : List ℕ) (a b : Answer) → ((a.number ≡ 8 → ⊥) → a.row.0 ≡ 0) → ((b.number ≡ 8 → ⊥) → b.row.0 ≡ 0) → a.number ≡ b.number
    → answer_and_row w a ≡ answer_and_row w b → a.row.0 ≡ b.row.0
rows_alike w a b ha hb n e =
    by_test (eqb a.number 8)
    (λ h. sym (row_read w a h) ∙ ap (row_in w) e ∙ row_read w b (rw (sym n) h))
    (λ h. ha (eqb-false a.number 8 h) ∙ sym (hb (λ q. eqb-false a.number 8 h (n ∙ q))))

-- WITH THE ROW'S LINE the whole answer is told
pub whole_apart : (w : List ℕ) (a b : Answer) → ((a.number ≡ 8 → ⊥) → a.row.0 ≡ 0) → ((b.number ≡ 8 → ⊥) → b.row.0 ≡ 0)
    → answer_and_row w a ≡ answer_and_row w b → a ≡ b
unfolding answer_and_row
whole_apart w a b ha hb e =
    let n : a.number ≡ b.number = numbers_alike w a b _ _ e in
    let p : a.place ≡ b.place = places_alike w a b _ _ e in
    ap₂ (λ (x y : ℕ). answer_in_row x y a.row.0) n p ∙ ap (answer_in_row b.number b.place) (rows_alike w a b ha hb n e)
