-- One turn of each loop, over any nodes: what the whole is, the rest from level k on is.
-- Assumes nothing.
use Prim.Native.Nat.{ℕ, suc, ◌+◌, ◌-◌, ◌/◌, ◌%◌, ◌<◌, ◌≤◌}
use mathlib.Core.Path.{◌≡◌, sym}
use mathlib.Core.List.{List, ◌∷◌, ◌++◌}
use native.Mathlib.Numerals.{add-one}
use native.Mathlib.Omega.{arith}
use lib.ListN.{length, get_or, take, drop, drop_of_length-le}
use lib.Seq.{drop-cons, take-suc, append_snoc}
use Rattle.nodes.specs.Trees.{on_bit, push, join_of, fold_of, up_of, climb_of}

module _ {A : Type 0} (node : A → A → A) (z : A) where
  module _ (d k n : ℕ) (rs : List A) (x : A) (h : d < length rs) where
    pub push_odd : k < d → n % 2 ≡ 1
        → take k rs ++ push node (d - k) n (drop k rs) x ≡ take (k + 1) rs ++ push node (d - (k + 1)) (n / 2) (drop (k + 1) rs) (node (get_or rs k z) x)
    unfolding push
    push_odd l b =
        let e : d - k ≡ suc (d - (k + 1)) = omega arith in
        let m : k < length rs = omega arith in
        rw (e, drop-cons rs k z m, b, add-one, take-suc rs k z m) (sym (append_snoc (take k rs) (get_or rs k z) (push node (d - suc k) (n / 2) (drop (suc k) rs) (node (get_or rs k z) x))))

    pub push_even : k < d → n % 2 ≡ 0 → push node (d - k) n (drop k rs) x ≡ x ∷ drop (k + 1) rs
    unfolding push
    push_even l b =
        let e : d - k ≡ suc (d - (k + 1)) = omega arith in
        let m : k < length rs = omega arith in
        rw (e, drop-cons rs k z m, b, add-one)

    pub push_top : k ≡ d → push node (d - k) n (drop k rs) x ≡ x ∷ drop (k + 1) rs
    unfolding push
    push_top l =
        let e : d - k ≡ 0 = omega arith in
        let m : k < length rs = omega arith in
        rw (e, drop-cons rs k z m, add-one)

    pub fold_step : (e : A) → k < d
        → fold_of node (d - k) n (drop k rs) x e ≡ fold_of node (d - (k + 1)) (n / 2) (drop (k + 1) rs) (join_of node n (get_or rs k z) x e) (node e e)
    unfolding fold_of
    fold_step e l =
        let q : d - k ≡ suc (d - (k + 1)) = omega arith in
        let m : k < length rs = omega arith in
        rw (q, drop-cons rs k z m, add-one)

    pub fold_top : (e : A) → k ≡ d → fold_of node (d - k) n (drop k rs) x e ≡ on_bit n x (get_or rs k z)
    unfolding fold_of
    fold_top e l =
        let q : d - k ≡ 0 = omega arith in
        let m : k < length rs = omega arith in
        rw (q, drop-cons rs k z m)

  module _ (k p : ℕ) (rs : List A) (x : A) where
    pub climb_step : k < length rs → climb_of node x p (drop k rs) ≡ climb_of node (up_of node p x (get_or rs k z)) (p / 2) (drop (k + 1) rs)
    unfolding climb_of
    climb_step m = rw (drop-cons rs k z m, add-one)

    pub climb_top : length rs ≤ k → climb_of node x p (drop k rs) ≡ x
    unfolding climb_of
    climb_top m = rw (drop_of_length-le rs m)
