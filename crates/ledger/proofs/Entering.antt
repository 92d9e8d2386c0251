-- A sound ledger after an accepted case was entered: it is sound again, has exactly the two rows more, and the order of two cases does not matter.
-- Assumes nothing.
use Prim.Native.Nat.{ℕ, ◌+◌, ◌*◌, ◌≤◌, ◌^◌}
use mathlib.Core.Path.{◌≡◌, refl, sym, ap, ◌∙◌}
use mathlib.Core.Logic.{inl}
use mathlib.Core.Bool.{true, false, not}
use mathlib.Core.List.{List, [], ◌∷◌, Memᴰ}
use native.Mathlib.Omega.{arith}
use lib.ListN.{length}
use Rattle.octets.specs.Parts.{same}
use Rattle.octets.specs.Rows.{rows_of, Long}
use Rattle.tree.specs.declared.Tree.{Tree}
use Rattle.tree.specs.Record.{with_leaf_of, grown}
use Rattle.tree.proofs.Grown.{with_leaf, grown_append}
use Rattle.ledger.specs.declared.Ledger.{Ledger}
use Rattle.ledger.specs.Sorted.{rising, insert, insert_all}
use Rattle.ledger.specs.Rows.{byte_order, table_with_two, among}
use Rattle.ledger.specs.Ledgers.{most_nullifiers, spent_rows, entered_of, Ready}
use Rattle.ledger.proofs.ByteOrder.{byte_total}
use Rattle.ledger.proofs.Several.{Each, New, all_member}
use Rattle.ledger.proofs.Pools.{pool_within}
use Rattle.ledger.proofs.Soundness.{Sound, within, at_most, among_found, member_among}
use Rattle.ledger.proofs.TableLaws.{rows_with, length_with, rising_with, gap_with, fresh_new}

-- some leaves more are so many leaves more
leaves_more : (t : Tree) (xs : List (List ℕ)) → t.leaves + length xs ≤ 2 ^ 29 → (grown t xs).leaves ≡ t.leaves + length xs
unfolding grown
leaves_more t [] h = omega arith
leaves_more t (x ∷ xs) h =
    let e : (with_leaf_of t x).leaves ≡ t.leaves + 1 = ap (λ (u : Tree). u.leaves) (with_leaf t x (omega arith)) in
    omega (arith, leaves_more (with_leaf_of t x) xs (omega arith))

-- case one, of two nullifiers a and b, two commitments x and y, and public values old and new
module _ (t r : List ℕ) (l : Ledger) (a b x y : List ℕ) (old new : ℕ) (s : Sound t r l) (g : Ready t l a b old new)
    (ha : length a ≡ 32) (hb : length b ≡ 32) where
  abbrev pub after : Ledger
  after = entered_of l x y old new

  abbrev pub table : List ℕ
  table = table_with_two l.nullifiers t a b

  abbrev both : List (List ℕ)
  both = a ∷ b ∷ []

  space : (l.nullifiers + 2) * 32 ≤ length t
  space = within (l.nullifiers + 2) most_nullifiers (length t) g.room

  both_long : Long both
  unfolding Long
  both_long = (ha, (hb, tt))

  both_new : New byte_order both (rows_of l.nullifiers t)
  both_new = fresh_new l.nullifiers t a b g.fresh

  pub table_length : length table ≡ length t
  table_length = length_with l.nullifiers t both space both_long both_new

  all_after : spent_rows table after ≡ insert_all byte_order both (spent_rows t l)
  unfolding spent_rows entered_of
  all_after = rows_with l.nullifiers t both space both_long both_new

  pub rows_after : spent_rows table after ≡ insert byte_order b (insert byte_order a (spent_rows t l))
  unfolding insert_all
  rows_after = all_after

  rises_after : rising byte_order (spent_rows table after) ≡ true
  unfolding spent_rows entered_of
  rises_after = rising_with l.nullifiers t both space both_long both_new s.rises

  pub sound_after : Sound table r after
  unfolding entered_of
  sound_after =
      record {
        even = omega (arith, s.even);
        fits = rw table_length g.room;
        rises = rises_after;
        leaves = leaves_more l.tree (x ∷ y ∷ []) (omega (arith, at_most (l.nullifiers + 2) most_nullifiers (length t) g.room, s.leaves)) ∙ ap (λ (n : ℕ). n + 2) s.leaves;
        anchored = s.anchored;
        roll = s.roll;
        pool = pool_within l.pool.0 old new g.pool;
      }

  -- another row stands there as before
  pub among_other : (z : List ℕ) → same a z ≡ false → same b z ≡ false → among z (spent_rows table after) ≡ among z (spent_rows t l)
  unfolding spent_rows entered_of Each
  among_other z p q =
      among_found z (rows_of (l.nullifiers + 2) table) rises_after
      ∙ ap not (gap_with l.nullifiers t both space both_long both_new z (p, (q, tt)))
      ∙ sym (among_found z (rows_of l.nullifiers t) s.rises)

  -- and the new ones stand there
  among_new : (z : List ℕ) → Memᴰ z both → among z (spent_rows table after) ≡ true
  among_new z m = rw all_after (member_among z (insert_all byte_order both (spent_rows t l)) (all_member byte_order byte_total both z (spent_rows t l) (inl m)))

  pub among_first : among a (spent_rows table after) ≡ true
  among_first = among_new a (Memᴰ.head refl)

  pub among_second : among b (spent_rows table after) ≡ true
  among_second = among_new b (Memᴰ.tail (Memᴰ.head refl))

-- two cases entered in either order: one count, the same anchors, and one record or the other
module _ (l : Ledger) (x y : List ℕ) (o n : ℕ) (x' y' : List ℕ) (o' n' : ℕ) where
  pub same_count : (entered_of (entered_of l x y o n) x' y' o' n').nullifiers ≡ (entered_of (entered_of l x' y' o' n') x y o n).nullifiers
  unfolding entered_of
  same_count = refl

  pub same_anchors : (entered_of (entered_of l x y o n) x' y' o' n').anchors ≡ (entered_of (entered_of l x' y' o' n') x y o n).anchors
  unfolding entered_of
  same_anchors = refl

  pub one_record : (entered_of (entered_of l x y o n) x' y' o' n').tree ≡ grown l.tree (x ∷ y ∷ x' ∷ y' ∷ [])
  unfolding entered_of
  one_record = sym (grown_append l.tree (x ∷ y ∷ []) (x' ∷ y' ∷ []))
