-- The number that some bytes write is 0 exactly where the bytes are zeros.
-- Assumes nothing.
use Prim.Native.Nat.{ℕ, zero, suc, ◌+◌, ◌*◌}
use mathlib.Core.Path.{◌≡◌, refl, sym, ◌∙◌}
use mathlib.Core.Bool.{◌&&◌}
use mathlib.Core.List.{List, [], ◌∷◌}
use native.Mathlib.Omega.{arith}
use borrow.Author.Tests.{ne_eqb}
use lib.Dec.{eqb}
use lib.ListN.{length}
use Rattle.octets.specs.Parts.{zeros, field, same}
use Rattle.octets.specs.Numbers.{little}
use Rattle.octets.proofs.PartLaws.{field_length}
use Rattle.seal.specs.Body.{is_zero}

both_zero : (b n : ℕ) → eqb (b + 256 * n) 0 ≡ (eqb b 0 && eqb n 0)
both_zero zero zero = refl
both_zero zero (suc n) = ne_eqb (0 + 256 * suc n) 0 (λ e. omega arith) ∙ sym (ne_eqb (suc n) 0 (λ e. omega arith))
both_zero (suc b) n = ne_eqb (suc b + 256 * n) 0 (λ e. omega arith) ∙ rw (ne_eqb (suc b) 0 (λ e. omega arith))

little_zero : (s : List ℕ) → eqb (little s) 0 ≡ same s (zeros (length s))
unfolding little same
little_zero [] = refl
little_zero (b ∷ s) = both_zero b (little s) ∙ rw (little_zero s)

pub field_zero : (at : ℕ) (s : List ℕ) → eqb (little (field at 8 s)) 0 ≡ is_zero (field at 8 s)
unfolding is_zero
field_zero at s = little_zero (field at 8 s) ∙ rw (field_length at 8 s)
