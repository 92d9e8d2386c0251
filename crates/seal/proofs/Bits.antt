-- What a float's pattern tells, over the format: which patterns are a NaN's; and that the library's word for a finite number is the definitions'.
-- Assumes nothing.
use Prim.Native.Nat.{ℕ, ◌*◌, ◌%◌, ◌≤◌, ◌<◌}
use mathlib.Core.Path.{◌≡◌, refl, sym, subst, ◌∙◌}
use mathlib.Core.Bool.{Bool, true, not}
use lib.Dec.{T}
use lib.Ieee.{Float, nan, inf, fin, Format, of_bits, nan_bits, is_nan, hid, ones, top}
use lib.Ieee.Bits.{nan_bits_is, nan_bits_above}
use lib.Ieee.Scale.{finite}
use Rattle.std.specs.Float.{float_is_finite}
use borrow.Author.Tests.{lt-ltb, le-ltb}

-- a float that the library's test calls a NaN is the definitions' one
pub is_nan_lem : (x : Float) → is_nan x ≡ true → x ≡ nan
unfolding is_nan
is_nan_lem nan e = refl
is_nan_lem (inf s) e = absurd (subst T (sym e) tt)
is_nan_lem (fin s m d) e = absurd (subst T (sym e) tt)

-- a pattern above the infinity's is read as the NaN, and no other is a NaN's
module _ (f : Format) (n : ℕ) where
  pub above_nan : ones f * hid f < n % top f → of_bits f n ≡ nan
  above_nan h = is_nan_lem (of_bits f n) (sym (nan_bits_is f n) ∙ nan_bits_above f n ∙ lt-ltb (ones f * hid f) (n % top f) h)

  pub below_no_nan : n % top f ≤ ones f * hid f → T (not (nan_bits f n))
  below_no_nan h = subst (λ (b : Bool). T (not b)) (sym (nan_bits_above f n ∙ le-ltb (ones f * hid f) (n % top f) h)) tt

-- the library's test of a finite number is the definition's
pub finite_is : (x : Float) → float_is_finite x ≡ finite x
unfolding float_is_finite
finite_is nan = refl
finite_is (inf s) = refl
finite_is (fin s m d) = refl
