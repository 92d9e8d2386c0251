-- A table whose rules belong to two askers, by their numbers: where the numbers never fall, its answer is the lower of the two askers' own answers.
-- Assumes nothing.
use Prim.Native.Nat.{ℕ, ◌<◌, ◌≤◌}
use mathlib.Core.Path.{◌≡◌, refl, sym, ap, ◌∙◌}
use mathlib.Core.Logic.{◌⊎◌, inl, inr}
use mathlib.Core.Bool.{Bool, true, false, cond, not, ◌&&◌, beq, false≢true}
use mathlib.Core.List.{List, [], ◌∷◌}
use native.Mathlib.Omega.{arith}
use native.Mathlib.Nat.{eq-or-lt_of_le}
use borrow.Author.Tests.{eqb-true, eqb-false, ne_eqb, not-true, leb-true, leb-false, le-leb, lt-leb}
use lib.Dec.{leb}
use Rattle.refusals.specs.declared.Answer.{Answer}
use Rattle.refusals.specs.Rules.{Rule, answer_in_row, is_accepted, first, numbered, lower, refuses_up_to}
use Rattle.octets.proofs.BoolLaws.{and_both}
use Rattle.refusals.proofs.RuleLaws.{by_test, first_here, first_next, numbered_here, numbered_next}

-- the numbers never fall
unfoldable pub never_falls : List Rule → Bool
never_falls [] = true
never_falls (r ∷ []) = true
never_falls (r ∷ s ∷ rs) = leb r.number s.number && never_falls (s ∷ rs)

unfoldable AtLeast : ℕ → List Rule → Type 0
AtLeast n [] = Unit {0}
AtLeast n (r ∷ rs) = (n ≤ r.number) × AtLeast n rs

less_least : (m n : ℕ) (rs : List Rule) → m ≤ n → AtLeast n rs → AtLeast m rs
unfolding AtLeast
less_least m n [] l h = tt
less_least m n (r ∷ rs) l h = (omega arith, less_least m n rs l h.1)

rest_least : (r : Rule) (rs : List Rule) → never_falls (r ∷ rs) ≡ true → AtLeast r.number rs × (never_falls rs ≡ true)
unfolding never_falls AtLeast
rest_least r [] h = (tt, refl)
rest_least r (s ∷ rs) h =
    let p = and_both (leb r.number s.number) (never_falls (s ∷ rs)) h in
    let l : r.number ≤ s.number = leb-true r.number s.number p.0 in
    ((l, less_least r.number s.number rs l (rest_least s rs p.1).0), p.1)

same_or_not : (x b : Bool) → (x ≡ b) ⊎ (x ≡ not b)
same_or_not true true = inl refl
same_or_not true false = inr refl
same_or_not false true = inr refl
same_or_not false false = inl refl

-- the lower of an answer and one that gives way to it
lower_left : (a b : Answer) → (a.number ≡ 0 → ⊥) → (is_accepted b ≡ true) ⊎ (a.number < b.number) → lower a b ≡ a
lower_left a b n (inl h) = rw h
lower_left a b n (inr h) =
    let z : b.number ≡ 0 → ⊥ = λ e. omega arith in
    rw (ne_eqb b.number 0 z, ne_eqb a.number 0 n, le-leb a.number b.number (omega arith))

lower_right : (a b : Answer) → (b.number ≡ 0 → ⊥) → (is_accepted a ≡ true) ⊎ (b.number < a.number) → lower a b ≡ b
lower_right a b n (inl h) = rw (ne_eqb b.number 0 n, h)
lower_right a b n (inr h) =
    let z : a.number ≡ 0 → ⊥ = λ e. omega arith in
    rw (ne_eqb b.number 0 n, ne_eqb a.number 0 z, lt-leb a.number b.number h)

-- both accept where the lower does
pub lower_accepts : (a b : Answer) → (lower a b).number ≡ 0 → (a.number ≡ 0) × (b.number ≡ 0)
lower_accepts a b h =
    by_test (is_accepted b)
    (λ e. (rw e at h, eqb-true b.number 0 e))
    (λ e. by_test (is_accepted a)
    (λ f. absurd (eqb-false b.number 0 e (rw (e, f) at h)))
    (λ f. by_test (leb a.number b.number)
    (λ g. absurd (eqb-false a.number 0 f (rw (e, f, g) at h)))
    (λ g. absurd (eqb-false b.number 0 e (rw (e, f, g) at h)))))

-- one who asks for himself with an answer in hand: he keeps it where it refuses with a number up to that of every rule left, gives up on it where a
-- rule with a lower number refuses, and has it still where none does
unfoldable pub all_from : ℕ → List Rule → Bool
all_from n [] = true
all_from n (r ∷ rs) = leb n r.number && all_from n rs

all_first : (n : ℕ) (rs : List Rule) → all_from n rs ≡ true → (is_accepted (first rs) ≡ true) ⊎ (n ≤ (first rs).number)
unfolding all_from first
all_first n [] h = inl refl
all_first n (r ∷ rs) h =
    let p = and_both (leb n r.number) (all_from n rs) h in
    by_test r.applies
    (λ e. rw (first_here r rs e) (inr (leb-true n r.number p.0)))
    (λ e. rw (first_next r rs e) (all_first n rs p.1))

unfoldable pub all_up_to : ℕ → List Rule → Bool
all_up_to n [] = true
all_up_to n (r ∷ rs) = leb r.number n && all_up_to n rs

pub up_to_first : (n : ℕ) (rs : List Rule) → all_up_to n rs ≡ true → (first rs).number ≤ n
unfolding all_up_to first
up_to_first n [] h = omega arith
up_to_first n (r ∷ rs) h =
    let p = and_both (leb r.number n) (all_up_to n rs) h in
    by_test r.applies
    (λ e. rw (first_here r rs e) (leb-true r.number n p.0))
    (λ e. rw (first_next r rs e) (up_to_first n rs p.1))

refuses : (n : ℕ) (a : Answer) → refuses_up_to n a ≡ true → (is_accepted a ≡ false) × (a.number ≤ n)
refuses n a h =
    let p = and_both (not (is_accepted a)) (leb a.number n) h in
    (not-true (is_accepted a) p.0, leb-true a.number n p.1)

pub keeps : (n : ℕ) (own : Answer) (rs : List Rule) → refuses_up_to n own ≡ true → all_from n rs ≡ true → own ≡ lower own (first rs)
keeps n own rs h k = go (refuses n own h) (all_first n rs k)
  where
    go : (is_accepted own ≡ false) × (own.number ≤ n) → (is_accepted (first rs) ≡ true) ⊎ (n ≤ (first rs).number) → own ≡ lower own (first rs)
    go (a, l) (inl e) = rw e
    go (a, l) (inr m) =
        by_test (is_accepted (first rs)) (λ e. rw e) (λ e. rw (e, a, le-leb own.number (first rs).number (omega arith)))

pub gives_up : (n : ℕ) (own : Answer) (g : List Rule) (b : Answer) → refuses_up_to n own ≡ false → all_up_to n g ≡ true → b ≡ first g → is_accepted b ≡ false → b ≡ lower own b
gives_up n own g b h u q k =
    by_test (is_accepted own)
    (λ e. rw (k, e))
    (λ e. let m : n < own.number = leb-false own.number n (sym (ap (λ (t : Bool). not t && leb own.number n) e) ∙ h) in
    let l : b.number ≤ n = rw q (up_to_first n g u) in
    rw (k, e, lt-leb own.number b.number (omega arith)))

pub has_still : (own b : Answer) → is_accepted b ≡ true → own ≡ lower own b
has_still own b h = rw h

module _ (ours : ℕ → Bool) where
  -- the rules of one asker
  unfoldable pub those : Bool → List Rule → List Rule
  those b [] = []
  those b (r ∷ rs) = cond (beq (ours r.number) b) (r ∷ those b rs) (those b rs)

  those_in : (b : Bool) (r : Rule) (rs : List Rule) → ours r.number ≡ b → those b (r ∷ rs) ≡ r ∷ those b rs
  unfolding those
  those_in true r rs e = rw e
  those_in false r rs e = rw e

  those_out : (b : Bool) (r : Rule) (rs : List Rule) → ours r.number ≡ not b → those b (r ∷ rs) ≡ those b rs
  unfolding those
  those_out true r rs e = rw e
  those_out false r rs e = rw e

  -- an asker's refusal is at least n, and has a number of that asker's
  Answers : Bool → ℕ → Answer → Type 0
  Answers b n a = (is_accepted a ≡ true) ⊎ ((n ≤ a.number) × (ours a.number ≡ b))

  those_answer : (b : Bool) (n : ℕ) (rs : List Rule) → AtLeast n rs → Answers b n (first (those b rs))
  unfolding Answers AtLeast those first
  those_answer b n [] h = inl refl
  those_answer b n (r ∷ rs) h = go (those_answer b n rs h.1) (same_or_not (ours r.number) b)
    where
      go : Answers b n (first (those b rs)) → (ours r.number ≡ b) ⊎ (ours r.number ≡ not b) → Answers b n (first (those b (r ∷ rs)))
      go a (inr e) = rw (those_out b r rs e) a
      go a (inl e) =
          rw (those_in b r rs e)
          (by_test r.applies
          (λ t. rw (first_here r (those b rs) t) (inr (h.0, e)))
          (λ t. rw (first_next r (those b rs) t) a))

  -- a refusal of the other asker's, further down, has a higher number
  further : (r : Rule) (b : Bool) (a : Answer) → ours r.number ≡ not b → Answers b r.number a → (is_accepted a ≡ true) ⊎ (r.number < a.number)
  unfolding Answers
  further r b a e (inl h) = inl h
  further r b a e (inr (l, s)) = go (eq-or-lt_of_le l)
    where
      differ : (x : Bool) → x ≡ not x → ⊥
      differ true q = false≢true (sym q)
      differ false q = false≢true q

      go : (r.number ≡ a.number) ⊎ (r.number < a.number) → (is_accepted a ≡ true) ⊎ (r.number < a.number)
      go (inl q) = absurd (differ b (sym s ∙ ap ours (sym q) ∙ e))
      go (inr q) = inr q

  pub first_lower : (rs : List Rule) → never_falls rs ≡ true → numbered rs ≡ true → first rs ≡ lower (first (those true rs)) (first (those false rs))
  unfolding those first
  first_lower [] h n = refl
  first_lower (r ∷ rs) h n = go (first_lower rs l.1 (numbered_next r rs n)) (same_or_not (ours r.number) true)
    where
      l : AtLeast r.number rs × (never_falls rs ≡ true)
      l = rest_least r rs h

      z : r.number ≡ 0 → ⊥
      z = numbered_here r rs n

      go : first rs ≡ lower (first (those true rs)) (first (those false rs)) → (ours r.number ≡ true) ⊎ (ours r.number ≡ false)
          → first (r ∷ rs) ≡ lower (first (those true (r ∷ rs))) (first (those false (r ∷ rs)))
      go ih (inl e) =
          rw (those_in true r rs e, those_out false r rs e)
          (by_test r.applies
          (λ t. rw (first_here r rs t, first_here r (those true rs) t)
          (sym (lower_left (answer_in_row r.number r.place r.row) (first (those false rs)) z (further r false (first (those false rs)) e (those_answer false r.number rs l.0)))))
          (λ t. rw (first_next r rs t, first_next r (those true rs) t) ih))
      go ih (inr e) =
          rw (those_out true r rs e, those_in false r rs e)
          (by_test r.applies
          (λ t. rw (first_here r rs t, first_here r (those false rs) t)
          (sym (lower_right (first (those true rs)) (answer_in_row r.number r.place r.row) z (further r true (first (those true rs)) e (those_answer true r.number rs l.0)))))
          (λ t. rw (first_next r rs t, first_next r (those false rs) t) ih))
