-- What a ledger can answer of a case: number 0, 2, 3, 6 or 17 with place and row 0, or number 8 with place 1 or 2 and a row in use. From that, the bounds of
-- number, place and row.
-- Assumes nothing.
use Prim.Native.Nat.{ℕ, ◌<◌, ◌≤◌}
use mathlib.Core.Path.{◌≡◌, refl}
use mathlib.Core.Bool.{Bool, true, false, cond}
use mathlib.Core.List.{List, [], ◌∷◌}
use native.Mathlib.Omega.{arith}
use lib.Dec.{leb}
use lib.ListN.{length}
use Rattle.refusals.specs.declared.Answer.{Answer}
use Rattle.refusals.specs.Rules.{Rule, answer_in_row, answer, accepted, is_accepted, first, rules_in, lower}
use Rattle.refusals.proofs.Denials.{◌&◌}
use Rattle.casefile.specs.Fields.{nullifier_of}
use Rattle.ledger.specs.declared.Ledger.{Ledger}
use Rattle.ledger.specs.Rows.{among, row_number_of}
use Rattle.ledger.specs.Ledgers.{most_nullifiers, spent_rows, damaged, no2, no3, no6, no8, no17, ledger_refusals}
use Rattle.ledger.proofs.Soundness.{Sound, undamaged, at_most}
use Rattle.ledger.proofs.Spent.{row_used}
use Rattle.judge.specs.Judging.{ledgers_own}
use Rattle.judge.proofs.Weighing.{from_middle}

-- what holds of both answers holds of the one that a test chooses, and of the lower
pub chosen : (P : Answer → Type 0) (b : Bool) {x y : Answer} → (b ≡ true → P x) → (b ≡ false → P y) → P (cond b x y)
chosen P true f g = f refl
chosen P false f g = g refl

pub holds_lower : (P : Answer → Type 0) (a b : Answer) → P a → P b → P (lower a b)
holds_lower P a b p q =
    chosen P (is_accepted b) (λ e. p) (λ e. chosen P (is_accepted a) (λ f. q) (λ f. chosen P (leb a.number b.number) (λ g. p) (λ g. q)))

-- what holds of each answer that a table can give holds of the one that it gives
unfoldable pub OfEach : (Answer → Type 0) → List Rule → Type 0
OfEach P [] = P accepted
OfEach P (r ∷ rs) = (r.applies ≡ true → P (answer_in_row r.number r.place r.row)) × OfEach P rs

pub of_first : (P : Answer → Type 0) (rs : List Rule) → OfEach P rs → P (first rs)
unfolding OfEach first
of_first P [] h = h
of_first P (r ∷ rs) h = chosen P r.applies h.0 (λ e. of_first P rs h.1)

module _ (c t r : List ℕ) (l : Ledger) where
  -- nullifier i is in the table of a ledger that is not damaged
  pub record Spent (i : ℕ) : Type 0 where
    pub place : i ≤ 2
    pub sound : Sound t r l
    pub there : among (nullifier_of i c) (spent_rows t l) ≡ true

  -- EACH ANSWER that the ledger can give
  pub each_answer : (P : Answer → Type 0) → ((n : ℕ) → n ≤ 17 → P (answer n 0))
      → ((i : ℕ) → Spent i → P (answer_in_row 8 i (row_number_of (nullifier_of i c) (spent_rows t l)))) → P (first (ledgers_own c t r l))
  unfolding OfEach ledger_refusals rules_in first no2 no3 no6 no8 no17
  each_answer P plain eight =
      chosen P (damaged t r l) (λ e. plain 2 (omega arith))
      (λ e. let s = undamaged t r l e in
      of_first P (rules_in (no3 t l ∷ from_middle c t r l))
      ((λ f. plain 3 (omega arith))
      & (λ f. plain 6 (omega arith))
      & (λ f. eight 1 (record { place = omega arith; sound = s; there = f }))
      & (λ f. eight 2 (record { place = omega arith; sound = s; there = f }))
      & (λ f. plain 17 (omega arith))
      & plain 0 (omega arith)))

  -- its bounds
  pub number_low : (first (ledgers_own c t r l)).number ≤ 17
  number_low = each_answer (λ (a : Answer). a.number ≤ 17) (λ n h. h) (λ i s. omega arith)

  pub place_low : (first (ledgers_own c t r l)).place < 256
  place_low = each_answer (λ (a : Answer). a.place < 256) (λ n h. omega arith) (λ i s. omega (arith, s.place))

  pub row_low : (first (ledgers_own c t r l)).row.0 < most_nullifiers
  row_low =
      each_answer (λ (a : Answer). a.row.0 < most_nullifiers) (λ n h. omega arith)
      (λ i s. omega (arith, row_used t l (nullifier_of i c) s.sound.rises s.there, at_most l.nullifiers most_nullifiers (length t) s.sound.fits))
