-- The loop that judges a bag's cases: what is judged and what is left, at each turn.
-- Assumes nothing.
use Prim.Native.Nat.{ℕ, suc, ◌+◌, ◌-◌, ◌<◌}
use mathlib.Core.Path.{◌≡◌, refl, sym, ap, ◌∙◌}
use mathlib.Core.List.{List, [], ◌∷◌, ◌++◌, append_assoc}
use native.Mathlib.Omega.{arith}
use lib.ListN.{length, set, replicate, length-append}
use lib.Seq.{set_at}
use Rattle.refusals.specs.declared.Answer.{Answer}
use Rattle.refusals.specs.Rules.{accepted, not_given}
use Rattle.ledger.specs.declared.Ledger.{Ledger}
use Rattle.ledger.specs.declared.Answered.{Answered}
use Rattle.judge.specs.Judging.{table_after_case, judged_of}
use Rattle.bag.specs.declared.Scanned.{Scanned}
use Rattle.bag.specs.Contents.{row_count, body_of, bodies_from, cases_of}
use Rattle.bag.specs.SealAndCases.{SoFar, so_far, with_next, judged_all, judged_from, seven_answers, report}

one_more : (given : List Answer) (a : Answer) → length (given ++ (a ∷ [])) ≡ length given + 1
one_more given a = length-append given (a ∷ [])

-- one answer more
padded_next : (given : List Answer) (a : Answer) (n : ℕ) → length given ≡ n → n < 7 → set (seven_answers given) n a ≡ seven_answers (given ++ (a ∷ []))
unfolding seven_answers
padded_next given a n e h =
    let m = 7 - length (given ++ (a ∷ [])) in
    let s : 7 - length given ≡ suc m = omega (arith, one_more given a) in
    rw (s, set_at given not_given (replicate m not_given) a n e) (sym (append_assoc given (a ∷ []) (replicate m not_given)))

case_row : (r : List ℕ) (h : SoFar) (k i : ℕ) (b : List ℕ) → judged_all r h (bodies_from (suc k) i b) ≡ judged_all r (with_next r h (body_of i b)) (bodies_from k (i + 1) b)
unfolding judged_all bodies_from
case_row r h k i b = refl

-- before row i of n: the answers given, and that what is left gives the whole
pub record Before (b t₀ r : List ℕ) (l₀ : Ledger) (n i : ℕ) (answers : List Answer) (t : List ℕ) (l : Ledger) : Type 0 where
  pub given : List Answer
  pub counted : length given + 1 ≡ i
  pub shown : answers ≡ seven_answers given
  pub whole : judged_from t₀ r l₀ (cases_of b) ≡ judged_all r (so_far given t l) (bodies_from (n - i) i b)

module _ (b t₀ r : List ℕ) (l₀ : Ledger) (n : ℕ) where
  pub start : (none : Answer) → none ≡ not_given → n ≡ row_count b → Before b t₀ r l₀ n 1 (replicate 7 none) t₀ l₀
  unfolding cases_of seven_answers
  start none p q = record { given = []; counted = refl; shown = rw p; whole = rw q }

  -- a case judged
  module _ (i : ℕ) (answers : List Answer) (t : List ℕ) (l : Ledger) where
    pub turn : i < n → i < 8 → Before b t₀ r l₀ n i answers t l → (c : List ℕ) (j : Answered) (t' : List ℕ) → c ≡ body_of i b → j ≡ judged_of c t r l → t' ≡ table_after_case c t r l
        → Before b t₀ r l₀ n (i + 1) (set answers (i - 1) j.answer) t' j.ledger
    unfolding with_next judged_of
    turn h k g c j t' p q s =
        let f = g.given ++ (j.answer ∷ []) in
        let e : n - i ≡ suc (n - (i + 1)) = omega arith in
        let m : length g.given ≡ i - 1 = omega (arith, g.counted) in
        record {
          given = f;
          counted = omega (arith, one_more g.given j.answer, g.counted);
          shown = ap (λ (x : List Answer). set x (i - 1) j.answer) g.shown ∙ padded_next g.given j.answer (i - 1) m (omega arith);
          whole = g.whole ∙ rw (e, case_row, q, s, p);
        }

    -- all of them judged
    module _ (h : i ≡ n) (g : Before b t₀ r l₀ n i answers t l) where
      done : judged_from t₀ r l₀ (cases_of b) ≡ so_far g.given t l
      unfolding judged_all bodies_from
      done = let e : n - i ≡ 0 = omega arith in g.whole ∙ rw e

      pub table_left : t ≡ (judged_from t₀ r l₀ (cases_of b)).table
      table_left = sym (ap (λ (x : SoFar). x.table) done)

      pub reported : (passed : Answer) → passed ≡ accepted → ◌≡◌ {A = Scanned} (record { layout = passed; seal = passed; cases = n - 1; answers = answers; ledger = l }) (report accepted accepted (judged_from t₀ r l₀ (cases_of b)).answers (judged_from t₀ r l₀ (cases_of b)).ledger)
      unfolding report
      reported passed p =
          let m : n - 1 ≡ length g.given = omega (arith, g.counted) in
          rw (done, p, m, g.shown)
