-- THE ROW OF A SPENT NULLIFIER (document 02, No. 9), over all bytes and all ledgers: with 8 the answer carries the one row in which the nullifier stands that
-- its place names, in the table as the case met it; every other answer carries 0, of a case and of whatever else is answered.
-- Assumes nothing.
use Prim.Native.Nat.{ℕ}
use mathlib.Core.Path.{◌≡◌, refl, ap}
use mathlib.Core.List.{List}
use Rattle.refusals.specs.declared.Answer.{Answer}
use Rattle.refusals.specs.Rules.{answer_in_row, first, rules_in}
use Rattle.refusals.proofs.AnswerRows.{without_rows, no_row}
use Rattle.seal.specs.declared.Reading.{Reading}
use Rattle.std.specs.Prelude.{Float, Result, Ok, Err}
use Rattle.seal.specs.declared.SealRefusal.{SealRefusal}
use Rattle.seal.specs.declared.SealRefusal.TheVariants.{Broken, BadLimit, NotFinite, Outside}
use Rattle.seal.specs.Pull.{seal_answer, answer_for}
use Rattle.casefile.specs.Fields.{nullifier_of}
use Rattle.ledger.specs.declared.Ledger.{Ledger}
use Rattle.ledger.specs.Ledgers.{no2, close_refusals, open_refusals}
use Rattle.ledger.proofs.Spent.{row_used, row_there, row_alone}
use Rattle.judge.specs.Judging.{answer_of}
use Rattle.judge.proofs.SpentRow.{other_rows, eight_sound, names_row}
use Rattle.bag.specs.SealAndCases.{layout_answer}
use Rattle.demands.specs.Refusals.{StandsIn}

module _ (c t r : List ℕ) (l : Ledger) where
  -- the row that is carried
  named : (h : (answer_of c t r l).number ≡ 8) → StandsIn (nullifier_of (answer_of c t r l).place c) t l (answer_of c t r l).row.0
  named h =
      let x = nullifier_of (answer_of c t r l).place c in
      let s = (eight_sound c t r l h).rises in
      let n = names_row c t r l h in
      rw n.row
      (record { used = row_used t l x s n.spent; there = row_there t l x s n.spent; alone = row_alone t l x s n.spent })

  pub where_spent : (i k : ℕ) → answer_of c t r l ≡ answer_in_row 8 i k → StandsIn (nullifier_of i c) t l k
  where_spent i k e =
      let p = ap (λ (a : Answer). a.place) e in
      let q = ap (λ (a : Answer). a.row.0) e in
      rw (← p, ← q) (named (ap (λ (a : Answer). a.number) e))

  pub else_zero : ((answer_of c t r l).number ≡ 8 → ⊥) → (answer_of c t r l).row.0 ≡ 0
  else_zero = other_rows c t r l

-- closing, opening, a bag's layout and its seal
pub close_zero : (t r : List ℕ) (l : Ledger) → (first (close_refusals t r l)).row.0 ≡ 0
unfolding close_refusals rules_in no2 without_rows
close_zero t r l = no_row (close_refusals t r l) refl

pub open_zero : (r : List ℕ) → (first (open_refusals r)).row.0 ≡ 0
unfolding open_refusals without_rows
open_zero r = no_row (open_refusals r) refl

refusal_zero : (x : SealRefusal) → (answer_for x).row.0 ≡ 0
refusal_zero = elim [ Broken ↦ refl | BadLimit ↦ refl | NotFinite ↦ refl | Outside ↦ refl ]

pub layout_zero : (x : Result Reading SealRefusal) → (layout_answer x).row.0 ≡ 0
layout_zero (Ok reading) = refl
layout_zero (Err refusal) = refusal_zero refusal

pub seal_zero : (x : Result Float SealRefusal) → (seal_answer x).row.0 ≡ 0
seal_zero (Ok pull) = refl
seal_zero (Err refusal) = refusal_zero refusal
