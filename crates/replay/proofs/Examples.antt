-- What is printed of a tape, byte by byte, where no ledger has a say: what is no entry, a planted ledger, the tape's end, and an opening on a roll
-- of no bytes; and of a case by its answer.
-- Assumes nothing.
use Rattle.std.proofs.Common.{◌≡◌, ℕ, List, [], take, refl}
use Rattle.text.specs.Words.{ascii}
use Rattle.text.specs.Decimal.{decimal, decimal_within}
use Rattle.text.specs.Answers.{answer_words, answer_line, spent_row_line, answer_and_row}
use Rattle.refusals.specs.Rules.{answer_in_row, accepted, first}
use Rattle.ledger.specs.declared.Ledger.{Ledger}
use Rattle.ledger.specs.Ledgers.{room_in, open_refusals}
use Rattle.judge.specs.Judging.{answer_of}
use Rattle.replay.specs.declared.State.{State}
use Rattle.lines.specs.declared.Broken.{Broken}
use Rattle.std.specs.Prelude.{None, Ok, Err}
use Rattle.replay.specs.Tape.{broken_turn, plant_on, case_on, fresh_on, next_turn}

pub broken : (e : Broken) (b t r : List ℕ) (s : State) → (next_turn (Err e) b t r s).text ≡ ascii "tape 50 0\n"
unfolding next_turn broken_turn answer_line answer_words decimal decimal_within
broken e b t r s = refl

pub planted : (n m : ℕ) (body t r : List ℕ) → (plant_on n m body t r).text ≡ ascii "plant 0 0\n"
unfolding plant_on answer_line answer_words decimal decimal_within
planted n m body t r = refl

pub end : (b t r : List ℕ) (s : State) → (next_turn (Ok None) b t r s).text ≡ []
unfolding next_turn
end b t r s = refl

pub opened_on_nothing : (n : ℕ) (t r : List ℕ) → (fresh_on n 0 t r).text ≡ ascii "open 1 0\n"
unfolding fresh_on open_refusals room_in first answer_line answer_words decimal decimal_within
opened_on_nothing n t r = refl

pub spent : (n m : ℕ) (l : Ledger) (body t r : List ℕ) → answer_of body (take n t) (take m r) l ≡ answer_in_row 8 2 2045
    → (case_on n m l body t r).text ≡ ascii "case 8 2\nrow 2045\n"
unfolding case_on answer_and_row spent_row_line answer_line answer_words decimal decimal_within
spent n m l body t r h = rw h

pub passed : (n m : ℕ) (l : Ledger) (body t r : List ℕ) → answer_of body (take n t) (take m r) l ≡ accepted
    → (case_on n m l body t r).text ≡ ascii "case 0 0\n"
unfolding case_on answer_and_row spent_row_line answer_line answer_words decimal decimal_within
passed n m l body t r h = rw h
