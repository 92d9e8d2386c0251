-- Tests on numbers: two that say the same, and the test turned round.
-- Assumes nothing.
use Prim.Native.Nat.{ℕ}
use mathlib.Core.Path.{◌≡◌, sym}
use mathlib.Core.Bool.{not}
use borrow.Author.Tests.{ltb-true, ltb-false, leb-true, leb-false, le-leb, lt-leb, lt-ltb, le-ltb}
use lib.Dec.{leb, ltb}
use Rattle.refusals.proofs.RuleLaws.{by_test}

pub not_ltb : (a b : ℕ) → not (ltb a b) ≡ leb b a
not_ltb a b =
    by_test (ltb a b) (λ e. rw e (sym (lt-leb b a (ltb-true a b e)))) (λ e. rw e (sym (le-leb b a (ltb-false a b e))))

pub not_leb : (a b : ℕ) → not (leb a b) ≡ ltb b a
not_leb a b =
    by_test (leb a b) (λ e. rw e (sym (le-ltb b a (leb-true a b e)))) (λ e. rw e (sym (lt-ltb b a (leb-false a b e))))
