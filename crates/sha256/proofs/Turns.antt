-- Rounds that go on from where others ended.
-- Assumes nothing.
use mathlib.Core.Path.{◌≡◌, refl, ap, ap₂, ◌∙◌}
use mathlib.Core.List.{List}
use Prim.Native.Nat.{ℕ, zero, suc, ◌+◌, ◌*◌, ◌≤◌}
use native.Mathlib.Nat.{add-zero, add-suc}
use native.Mathlib.Omega.{arith}
use lib.ListN.{get_or, take, drop}
use lib.Seq.{get_or-take, get_or-drop}
use Rattle.sha256.specs.declared.State.{State}
use Rattle.sha256.specs.Compression.{rounds, round_of}
use Rattle.sha256.specs.Steps.{rounds_from}

after : (t n : ℕ) (k w : List ℕ) (s : State) → rounds_from t n k w (rounds t k w s) ≡ rounds (t + n) k w s
unfolding rounds_from rounds
after t zero k w s = rw add-zero
after t (suc n) k w s = rw (add-suc, after t n k w s)

-- rounds with some of the constants and of the words are these rounds of all
part : (t n m : ℕ) (k w : List ℕ) (s : State) → n ≤ m → rounds n (take m (drop t k)) (take m (drop t w)) s ≡ rounds_from t n k w s
unfolding rounds_from rounds
part t zero m k w s h = refl
part t (suc n) m k w s h =
    let one = λ (l : List ℕ). get_or-take m (drop t l) n 0 h ∙ get_or-drop t l n 0 in
    ap (λ (r : State). round_of r (get_or (take m (drop t k)) n 0) (get_or (take m (drop t w)) n 0)) (part t n m k w s (omega arith))
    ∙ ap₂ (λ (x y : ℕ). round_of (rounds_from t n k w s) x y) (one k) (one w)

-- one turn of the loop
pub eight_more : (i : ℕ) (k w : List ℕ) (s t r : State) → t ≡ rounds (i * 8) k w s → r ≡ rounds 8 (take 8 (drop (i * 8) k)) (take 8 (drop (i * 8) w)) t → r ≡ rounds ((i + 1) * 8) k w s
eight_more i k w s t r p q =
    let e : i * 8 + 8 ≡ (i + 1) * 8 = omega arith in
    q ∙ part (i * 8) 8 8 k w t (omega arith) ∙ ap (rounds_from (i * 8) 8 k w) p ∙ after (i * 8) 8 k w s ∙ ap (λ (n : ℕ). rounds n k w s) e
