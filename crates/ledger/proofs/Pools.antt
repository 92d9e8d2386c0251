-- The pool by sums. A change that is not outside the bounds leaves a pool for which what is in it and what was taken out are together what was in it and
-- what was put in, and which is no higher than all money; and a change for which the sums are so is not outside.
-- Assumes nothing.
use Prim.Native.Nat.{ℕ, ◌+◌, ◌-◌, ◌<◌, ◌≤◌}
use mathlib.Core.Path.{◌≡◌, sym, ap, ◌∙◌}
use mathlib.Core.Bool.{Bool, true, false, ◌||◌, or-true, true≢false}
use native.Mathlib.Omega.{arith}
use borrow.Author.Tests.{ltb-true, ltb-false, lt-ltb, le-ltb}
use lib.Dec.{ltb}
use Rattle.refusals.proofs.RuleLaws.{by_test}
use Rattle.units.specs.Limits.{max_money}
use Rattle.ledger.specs.Ledgers.{pool_after, outside}

module _ (pool old new : ℕ) where
  module _ (h : outside pool old new ≡ false) where
    pub not_below : new ≤ pool + old
    unfolding outside
    not_below =
        by_test (ltb (pool + old) new)
        (λ e. absurd (true≢false (sym (ap (λ (b : Bool). b || ltb max_money (pool_after pool old new)) e) ∙ h)))
        (λ e. ltb-false (pool + old) new e)

    pub pool_within : pool_after pool old new ≤ max_money
    unfolding outside
    pool_within =
        ltb-false max_money (pool_after pool old new)
        (sym (ap (λ (b : Bool). b || ltb max_money (pool_after pool old new)) (le-ltb (pool + old) new not_below)) ∙ h)

    pub pool_sum : pool_after pool old new + new ≡ pool + old
    unfolding pool_after
    pool_sum = omega (arith, not_below)

    pub not_above : pool + old ≤ new + max_money
    not_above = omega (arith, pool_sum, pool_within)

  pub inside : new ≤ pool + old → pool + old ≤ new + max_money → outside pool old new ≡ false
  unfolding outside pool_after
  inside low high = rw (le-ltb (pool + old) new low) (le-ltb max_money (pool + old - new) (omega arith))

  -- outside, and not
  pub is_below : pool + old < new → true ≡ outside pool old new
  unfolding outside
  is_below h = rw (lt-ltb (pool + old) new h)

  pub is_above : new + max_money < pool + old → true ≡ outside pool old new
  unfolding outside pool_after
  is_above h = rw (lt-ltb max_money (pool + old - new) (omega arith)) (sym (or-true (ltb (pool + old) new)))

  -- which is asked of a pool that falls by one comparison, once it is known that it does not fall below zero
  pub falls : old ≤ new → new - old ≤ pool → ltb max_money (pool - (new - old)) ≡ outside pool old new
  unfolding outside pool_after
  falls less enough =
      let e : pool - (new - old) ≡ pool + old - new = omega arith in
      rw (le-ltb (pool + old) new (omega arith)) (ap (ltb max_money) e)

  -- and of one that rises, once it is known that it is not above all money
  pub rises : new ≤ old → pool ≤ max_money → ltb (max_money - pool) (old - new) ≡ outside pool old new
  rises more money =
      by_test (ltb (max_money - pool) (old - new))
      (λ e. e ∙ is_above (omega (arith, ltb-true (max_money - pool) (old - new) e)))
      (λ e. e ∙ sym (inside (omega arith) (omega (arith, ltb-false (max_money - pool) (old - new) e))))
