-- What the tests of a table deny: a clause for each rule, which holds exactly when the rule does not apply.
-- Assumes nothing.
use Prim.Native.Nat.{ℕ, ◌<◌, ◌≤◌}
use mathlib.Core.Path.{◌≡◌, refl, sym, ap}
use mathlib.Core.Logic.{◌↔◌, ◌⊎◌, inl, inr, ⊎_elim}
use mathlib.Core.Bool.{Bool, true, false, cond, not, ◌&&◌, ◌||◌, false≢true}
use mathlib.Core.List.{List, [], ◌∷◌}
use borrow.Author.Tests.{eqb-true, eq-eqb, ltb-false, le-ltb, leb-false, lt-leb, not-false}
use lib.Dec.{eqb, leb, ltb}
use Rattle.refusals.specs.Rules.{Rule, None}

-- the test fails exactly when the clause holds
abbrev pub Denies : Bool → Type 0 → Type 0
Denies test clause = (test ≡ false) ↔ clause

pub equal : {a b : ℕ} → Denies (not (eqb a b)) (a ≡ b)
equal {a} {b} = (λ h. eqb-true a b (not-false (eqb a b) h), λ e. ap not (eq-eqb a b e))

pub at_most : {m n : ℕ} → Denies (ltb m n) (n ≤ m)
at_most {m} {n} = (ltb-false m n, le-ltb m n)

pub below : {m n : ℕ} → Denies (leb m n) (n < m)
below {m} {n} = (leb-false m n, lt-leb m n)

-- a test that asks for two things, and one that asks for one of two
pub either : {a b : Bool} {P Q : Type 0} → Denies a P → Denies b Q → Denies (a && b) (P ⊎ Q)
either {a = true} p q = (λ h. inr (q.0 h), ⊎_elim (λ x. absurd (false≢true (sym (p.1 x)))) q.1)
either {a = false} p q = (λ h. inl (p.0 refl), λ x. refl)

pub both : {a b : Bool} {P Q : Type 0} → Denies a P → Denies b Q → Denies (a || b) (P × Q)
both {a = true} p q = (λ h. absurd (false≢true (sym h)), λ x. p.1 x.0)
both {a = false} p q = (λ h. (p.0 refl, q.0 h), λ x. q.1 x.1)

-- the test of the first rule with that number and place
unfoldable pub test_of : ℕ → ℕ → List Rule → Bool
test_of n p [] = false
test_of n p (r ∷ rs) = cond (eqb r.number n && eqb r.place p) r.applies (test_of n p rs)

-- where no rule applies, it fails
pub fails : (rows : List Rule) → None rows → (n p : ℕ) → test_of n p rows ≡ false
unfolding test_of None
fails [] h n p = refl
fails (r ∷ rs) h n p = go (eqb r.number n && eqb r.place p) (fails rs h.1 n p)
  where
    go : (b : Bool) → test_of n p rs ≡ false → cond b r.applies (test_of n p rs) ≡ false
    go true e = h.0
    go false e = e

-- what is known of each rule, one after the other
infixr 1 ◌&◌
pub ◌&◌ : {P Q : Type 0} → P → Q → P × Q
p & q = (p, q)
