-- The row that an answer carries, over any table: only rules that give a row have one to hand on, and number and place do not depend on it.
-- Assumes nothing.
use Prim.Native.Nat.{ℕ}
use mathlib.Core.Path.{◌≡◌, refl, sym, ap, ◌∙◌}
use mathlib.Core.Bool.{Bool, true, cond, ◌&&◌, ◌||◌}
use mathlib.Core.List.{List, [], ◌∷◌}
use borrow.Author.Tests.{eqb-true, eq-eqb, ne_eqb}
use lib.Dec.{eqb, leb}
use Rattle.octets.proofs.BoolLaws.{and_both}
use Rattle.refusals.specs.declared.Answer.{Answer}
use Rattle.refusals.specs.Rules.{Rule, rule, without_row, is_accepted, first, lower}
use Rattle.refusals.proofs.RuleLaws.{by_test, first_here, first_next}

-- only rules of this number give a row
unfoldable pub only_with : ℕ → List Rule → Bool
only_with n [] = true
only_with n (r ∷ rs) = (eqb r.number n || eqb r.row 0) && only_with n rs

-- EVERY OTHER ANSWER HAS ROW 0
pub others_zero : (n : ℕ) (rules : List Rule) → only_with n rules ≡ true → ((first rules).number ≡ n → ⊥) → (first rules).row.0 ≡ 0
unfolding only_with first
others_zero n [] h k = refl
others_zero n (r ∷ rs) h k =
    let p = and_both (eqb r.number n || eqb r.row 0) (only_with n rs) h in
    by_test r.applies
    (λ e. rw (first_here r rs e)
    (eqb-true r.row 0 (sym (ap (λ (b : Bool). b || eqb r.row 0) (ne_eqb r.number n (λ q. k (ap (λ (a : Answer). a.number) (first_here r rs e) ∙ q)))) ∙ p.0)))
    (λ e. rw (first_next r rs e) (others_zero n rs p.1 (λ q. k (ap (λ (a : Answer). a.number) (first_next r rs e) ∙ q))))

-- AN ANSWER OF ONE NUMBER comes from the rules that have it
unfoldable pub only : ℕ → List Rule → List Rule
only n [] = []
only n (r ∷ rs) = cond (eqb r.number n) (r ∷ only n rs) (only n rs)

pub only_first : (n : ℕ) (rules : List Rule) → (n ≡ 0 → ⊥) → (first rules).number ≡ n → first rules ≡ first (only n rules)
unfolding only first
only_first n [] z h = absurd (z (sym h))
only_first n (r ∷ rs) z h =
    by_test r.applies
    (λ e. rw (eq-eqb r.number n (sym (ap (λ (a : Answer). a.number) (first_here r rs e)) ∙ h), e))
    (λ e. let below = only_first n rs z (sym (ap (λ (a : Answer). a.number) (first_next r rs e)) ∙ h) in
    by_test (eqb r.number n) (λ q. rw (q, e) below) (λ q. rw (q, e) below))

-- NUMBER AND PLACE of the first rule that applies are those of the rules with no row
unfoldable pub without_rows : List Rule → List Rule
without_rows [] = []
without_rows (r ∷ rs) = rule r.applies r.number r.place ∷ without_rows rs

pub without_first : (rules : List Rule) → without_row (first rules) ≡ first (without_rows rules)
unfolding without_rows first
without_first [] = refl
without_first (r ∷ rs) = by_test r.applies (λ e. rw e) (λ e. rw e (without_first rs))

pub no_row : (rules : List Rule) → without_rows rules ≡ rules → (first rules).row.0 ≡ 0
no_row rules e = ap (λ (rs : List Rule). (first rs).row.0) (sym e) ∙ ap (λ (a : Answer). a.row.0) (sym (without_first rules))

-- and the lower of two answers is chosen by their numbers
pub without_lower : (a b : Answer) → without_row (lower a b) ≡ lower (without_row a) (without_row b)
without_lower a b =
    by_test (is_accepted b)
    (λ e. rw e)
    (λ e. by_test (is_accepted a) (λ f. rw (e, f)) (λ f. by_test (leb a.number b.number) (λ g. rw (e, f, g)) (λ g. rw (e, f, g))))
