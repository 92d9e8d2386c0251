-- Each entry of the table of orders is an index of the sixteen words: one test that antt computes.
-- Assumes nothing.
use Rattle.std.proofs.Common.{◌≡◌, ℕ, zero, suc, ◌<◌, Bool, true, ◌&&◌, ltb, List, [], ◌∷◌, get_or, refl, ltb-true}
use mathlib.Core.Bool.{and-eq-true_iff}
use Rattle.blake2b.specs.Compression.{rows, sigma}

module _ {A : Type 0} where
  -- the test p passes at each element
  abbrev every : (A → Bool) → List A → Bool
  every p [] = true
  every p (x ∷ l) = p x && every p l

  -- and so at any index, where it passes at what stands past the end
  every_at : (p : A → Bool) (d : A) → p d ≡ true → (l : List A) → every p l ≡ true → (i : ℕ) → p (get_or l i d) ≡ true
  every_at p d e [] h i = e
  every_at p d e (x ∷ l) h zero = ((and-eq-true_iff (p x) (every p l)).0 h).0
  every_at p d e (x ∷ l) h (suc i) = every_at p d e l ((and-eq-true_iff (p x) (every p l)).0 h).1 i

low : ℕ → Bool
low x = ltb x 16

pub below : (s : List (List ℕ)) → s ≡ sigma → (i j : ℕ) → get_or (get_or s i []) j 0 < 16
unfolding sigma rows low
below s e i j =
    rw e (ltb-true _ 16 (every_at low 0 refl (get_or sigma i []) (every_at (every low) [] refl sigma refl i) j))
