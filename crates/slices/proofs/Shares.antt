-- What a step does by its share, over whatever is said of it.
-- Assumes nothing.
use Prim.Native.Nat.{ℕ, ◌-◌, ◌<◌, ◌≤◌}
use mathlib.Core.Path.{◌≡◌}
use mathlib.Core.Bool.{true, false}
use mathlib.Core.List.{List}
use native.Mathlib.Omega.{arith}
use borrow.Author.Tests.{lt-ltb, le-ltb, eq-eqb, ne_eqb}
use lib.Dec.{eqb, ltb}
use Rattle.refusals.proofs.RuleLaws.{by_test}
use Rattle.slices.specs.Records.{steps_in, holds_case}
use Rattle.slices.specs.Steps.{by_share}

module _ {A : Type 0} (refused : A) (climb : ℕ → ℕ → A) (check settle done : A) (b : List ℕ) where
  pub share_none : holds_case b ≡ false → by_share refused climb check settle done b ≡ refused
  unfolding by_share
  share_none h = rw h

  module _ (h : holds_case b ≡ true) where
    pub share_first : steps_in b < 29 → by_share refused climb check settle done b ≡ climb 1 (steps_in b)
    unfolding by_share
    share_first n = rw (h, lt-ltb (steps_in b) 29 n)

    pub share_second : 29 ≤ steps_in b → steps_in b < 58 → by_share refused climb check settle done b ≡ climb 2 (steps_in b - 29)
    unfolding by_share
    share_second m n = rw (h, le-ltb (steps_in b) 29 m, lt-ltb (steps_in b) 58 n)

    pub share_check : steps_in b ≡ 58 → by_share refused climb check settle done b ≡ check
    unfolding by_share
    share_check n = rw (h, le-ltb (steps_in b) 29 (omega (arith, n)), le-ltb (steps_in b) 58 (omega (arith, n)), eq-eqb (steps_in b) 58 n)

    pub share_settle : steps_in b ≡ 59 → by_share refused climb check settle done b ≡ settle
    unfolding by_share
    share_settle n =
        rw (h, le-ltb (steps_in b) 29 (omega (arith, n)), le-ltb (steps_in b) 58 (omega (arith, n)), ne_eqb (steps_in b) 58 (λ e. omega (arith, n, e)), eq-eqb (steps_in b) 59 n)

    pub share_done : 60 ≤ steps_in b → by_share refused climb check settle done b ≡ done
    unfolding by_share
    share_done n =
        rw (h, le-ltb (steps_in b) 29 (omega (arith, n)), le-ltb (steps_in b) 58 (omega (arith, n)), ne_eqb (steps_in b) 58 (λ e. omega (arith, n, e)), ne_eqb (steps_in b) 59 (λ e. omega (arith, n, e)))

  -- what holds of each outcome holds of the one that it is
  pub share_any : (P : A → Type 0) → P refused → ((i k : ℕ) → P (climb i k)) → P check → P settle → P done → P (by_share refused climb check settle done b)
  unfolding by_share
  share_any P none up checked settled last =
      by_test (holds_case b)
      (λ h. by_test (ltb (steps_in b) 29)
      (λ e. rw (h, e) (up 1 (steps_in b)))
      (λ e. by_test (ltb (steps_in b) 58)
      (λ f. rw (h, e, f) (up 2 (steps_in b - 29)))
      (λ f. by_test (eqb (steps_in b) 58)
      (λ g. rw (h, e, f, g) checked)
      (λ g. by_test (eqb (steps_in b) 59) (λ k. rw (h, e, f, g, k) settled) (λ k. rw (h, e, f, g, k) last)))))
      (λ h. rw h none)

-- all steps but 60 leave what only that one changes
pub share_same : {A : Type 0} (x y : A) (b : List ℕ) → (steps_in b ≡ 59 → ⊥) → by_share x (λ i k. x) x y x b ≡ x
unfolding by_share
share_same x y b n =
    by_test (holds_case b)
    (λ h. by_test (ltb (steps_in b) 29)
    (λ e. rw (h, e))
    (λ e. by_test (ltb (steps_in b) 58)
    (λ f. rw (h, e, f))
    (λ f. by_test (eqb (steps_in b) 58) (λ g. rw (h, e, f, g)) (λ g. rw (h, e, f, g, ne_eqb (steps_in b) 59 n)))))
    (λ h. rw h)
