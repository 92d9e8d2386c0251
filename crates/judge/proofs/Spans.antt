-- How many comparisons a search by halves takes: at most one for each binary digit of the number of rows.
-- Assumes nothing.
use Prim.Native.Nat.{ℕ, zero, suc, ◌/◌, ◌^◌, ◌<◌, ◌≤◌}
use mathlib.Core.Path.{◌≡◌, refl}
use native.Mathlib.Nat.{pow-suc}
use native.Mathlib.Omega.{arith}
use lib.Ieee.{size}
use lib.Ieee.Digits.{size-lt, size-le}

-- at most half of some rows has a digit less than all of them
pub half_is_shorter : (n m : ℕ) → 0 < n → m ≤ n / 2 → size m < size n
half_is_shorter n m some half = go (size n) (size-lt n)
  where
    go : (z : ℕ) → n < 2 ^ z → size m < z
    go zero below = absurd (omega arith)
    go (suc z) below =
        let k : size m ≤ z = size-le m z (omega (arith, pow-suc 2 z)) in
        omega arith

-- The most rows that are searched: 65,534 where a case is asked about, 65,535 where its second nullifier is entered. One row more would take
-- another comparison.
sixteen_for_65534 : size 65534 ≡ 16
unfolding size
sixteen_for_65534 = refl

sixteen_for_65535 : size 65535 ≡ 16
unfolding size
sixteen_for_65535 = refl

seventeen_for_65536 : size 65536 ≡ 17
unfolding size
seventeen_for_65536 = refl
