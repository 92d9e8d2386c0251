-- One turn of each loop, and its end, over bytes.
-- Assumes nothing.
use Prim.Native.Nat.{ℕ, zero, suc, ◌+◌, ◌-◌, ◌*◌, ◌/◌, ◌%◌, ◌<◌}
use mathlib.Core.Path.{◌≡◌, refl, sym, ap, ◌∙◌}
use mathlib.Core.List.{List, [], ◌∷◌, ◌++◌}
use native.Mathlib.Numerals.{add-one}
use native.Mathlib.Nat.{zero-add}
use native.Mathlib.Omega.{arith}
use lib.ListN.{length, get_or, take, drop}
use Rattle.octets.specs.Parts.{field, pasted}
use Rattle.octets.specs.Rows.{rows_of, flat}
use Rattle.octets.proofs.PartLaws.{field_field, field_length, pasted_is}
use Rattle.octets.proofs.RowLaws.{rows_length, rows_field, flat_put}
use Rattle.nodes.specs.Trees.{on_bit, empty_at, push, join_of, fold_of, climb_of}
use Rattle.nodes.specs.CommitmentTree.{parent_of, empty_root}
use Rattle.tree.specs.Record.{step_of}
use Rattle.tree.proofs.Steps.{push_odd, push_even, push_top, fold_step, fold_top, climb_step, climb_top}

on_more : (n : ℕ) (a b : List ℕ) → 0 < n → on_bit n a b ≡ b
on_more zero a b h = absurd (omega arith)
on_more (suc n) a b h = refl

empty_next : (k : ℕ) → empty_root (k + 1) ≡ parent_of (empty_root k) (empty_root k)
unfolding empty_root empty_at
empty_next k = rw add-one

-- a record's 960 bytes: a turn of adding a leaf, and a turn of the root
module _ (t x y : List ℕ) (k n : ℕ) (long : length t ≡ 960) where
  pub push_turn : k < 29 → n % 2 ≡ 1 → y ≡ parent_of (field (k * 32) 32 t) x
      → take k (rows_of 30 t) ++ push parent_of (29 - k) n (drop k (rows_of 30 t)) x ≡ take (k + 1) (rows_of 30 t) ++ push parent_of (29 - (k + 1)) (n / 2) (drop (k + 1) (rows_of 30 t)) y
  push_turn h b e =
      push_odd parent_of [] 29 k n (rows_of 30 t) x (omega (arith, rows_length 30 t)) h b
      ∙ rw (rows_field 30 k t (omega arith) (omega arith), sym e)

  pub fold_turn : k < 29 → y ≡ join_of parent_of n (field (k * 32) 32 t) x (empty_root k)
      → fold_of parent_of (29 - k) n (drop k (rows_of 30 t)) x (empty_root k) ≡ fold_of parent_of (29 - (k + 1)) (n / 2) (drop (k + 1) (rows_of 30 t)) y (empty_root (k + 1))
  fold_turn h p =
      fold_step parent_of [] 29 k n (rows_of 30 t) x (omega (arith, rows_length 30 t)) (empty_root k) h
      ∙ rw (rows_field 30 k t (omega arith) (omega arith), sym p, sym (empty_next k))

-- the end of adding a leaf: row k is replaced
module _ (t x : List ℕ) (k n : ℕ) (long : length t ≡ 960) (row : length x ≡ 32) where
  abbrev pub Ended : Type 0
  Ended = flat (take k (rows_of 30 t) ++ push parent_of (29 - k) n (drop k (rows_of 30 t)) x) ≡ pasted (k * 32) x t

  replaced : k < 30 → flat (take k (rows_of 30 t) ++ (x ∷ drop (k + 1) (rows_of 30 t))) ≡ pasted (k * 32) x t
  replaced h =
      flat_put 30 k t x h (omega arith) ∙ ap (λ (j : ℕ). take (k * 32) t ++ (x ++ drop (k * 32 + j) t)) (sym row) ∙ sym (pasted_is (k * 32) x t (omega arith))

  pub push_full : k ≡ 29 → Ended
  push_full h = rw (push_top parent_of [] 29 k n (rows_of 30 t) x (omega (arith, rows_length 30 t)) h) (replaced (omega arith))

  pub push_free : k < 29 → n % 2 ≡ 0 → Ended
  push_free h b = rw (push_even parent_of [] 29 k n (rows_of 30 t) x (omega (arith, rows_length 30 t)) h b) (replaced (omega arith))

-- the end of the root
module _ (t x : List ℕ) (k n : ℕ) (long : length t ≡ 960) where
  fold_end : k ≡ 29 → fold_of parent_of (29 - k) n (drop k (rows_of 30 t)) x (empty_root k) ≡ on_bit n x (field 928 32 t)
  fold_end h =
      fold_top parent_of [] 29 k n (rows_of 30 t) x (omega (arith, rows_length 30 t)) (empty_root k) h
      ∙ rw (h, rows_field 30 29 t (omega arith) (omega arith))

  pub fold_open : k ≡ 29 → n ≡ 0 → fold_of parent_of (29 - k) n (drop k (rows_of 30 t)) x (empty_root k) ≡ x
  fold_open h z = fold_end h ∙ rw z

  pub fold_full : k ≡ 29 → 0 < n → fold_of parent_of (29 - k) n (drop k (rows_of 30 t)) x (empty_root k) ≡ field 928 32 t
  fold_full h p = fold_end h ∙ on_more n x (field 928 32 t) p

-- a path of 928 bytes: a turn of the climb, and its end
abbrev pub siblings : List ℕ → List (List ℕ)
siblings path = rows_of 29 (field 0 928 path)

sibling_at : (path : List ℕ) (k : ℕ) → k < 29 → get_or (siblings path) k [] ≡ field (k * 32) 32 path
sibling_at path k h =
    rows_field 29 k (field 0 928 path) h (omega (arith, field_length 0 928 path)) ∙ field_field 0 928 (k * 32) 32 path (omega arith)
    ∙ ap (λ (j : ℕ). field j 32 path) (zero-add (k * 32))

module _ (path x y : List ℕ) (k n : ℕ) where
  pub climb_turn : k < 29 → y ≡ step_of n x (field (k * 32) 32 path)
      → climb_of parent_of x n (drop k (siblings path)) ≡ climb_of parent_of y (n / 2) (drop (k + 1) (siblings path))
  unfolding step_of
  climb_turn h p =
      climb_step parent_of [] k n (siblings path) x (omega (arith, rows_length 29 (field 0 928 path)))
      ∙ rw (sibling_at path k h, sym p)

  pub climb_end : k ≡ 29 → climb_of parent_of x n (drop k (siblings path)) ≡ x
  climb_end h = climb_top parent_of [] k n (siblings path) x (omega (arith, rows_length 29 (field 0 928 path)))
