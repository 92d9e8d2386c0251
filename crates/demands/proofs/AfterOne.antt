-- ONE ACCEPTED CASE: after it the nullifiers, the tree and the pool are what the rules give.
-- Assumes nothing.
use Prim.Native.Nat.{ℕ, ◌+◌}
use mathlib.Core.Path.{◌≡◌, refl, ap}
use mathlib.Core.Logic.{◌⊎◌, inl, inr}
use mathlib.Core.List.Memᴰ
use mathlib.Core.List.{List, [], ◌∷◌, ◌++◌, Memᴰ}
use native.Mathlib.Omega.{arith}
use lib.ListN.{length}
use Rattle.casefile.specs.Fields.{nullifier_of}
use Rattle.ledger.specs.declared.Ledger.{Ledger}
use Rattle.ledger.specs.Sorted.{insert}
use Rattle.ledger.specs.Rows.{byte_order}
use Rattle.ledger.specs.Ledgers.{most_nullifiers, entered_of}
use Rattle.ledger.proofs.ByteOrder.{byte_total}
use Rattle.ledger.proofs.Members.{member_insert, insert_member}
use Rattle.ledger.proofs.Soundness.{within}
use Rattle.ledger.proofs.TableLaws.{entered_drop}
use Rattle.demands.specs.Histories.{Held, judged, held_after, answer_on, nullifiers_of, AfterOne}
use Rattle.demands.proofs.OneCase.{nullifier_long, ready_before, table_is, ledger_is, length_then, rows_then, pool_then, sound_then}

-- rows with a case's two nullifiers put in have those two for members, beside their own
module _ (c : List ℕ) (rows : List (List ℕ)) where
  abbrev both : List (List ℕ)
  both = insert byte_order (nullifier_of 2 c) (insert byte_order (nullifier_of 1 c) rows)

  own : (z : List ℕ) → (z ≡ nullifier_of 1 c) ⊎ (z ≡ nullifier_of 2 c) → Memᴰ z (rows ++ nullifiers_of c)
  own z (inl e) = Memᴰ.append_right rows (Memᴰ.head e)
  own z (inr e) = Memᴰ.append_right rows (Memᴰ.tail (Memᴰ.head e))

  member_both : (z : List ℕ) → Memᴰ z both → Memᴰ z (rows ++ nullifiers_of c)
  member_both z m = second (member_insert byte_order byte_total (nullifier_of 2 c) z (insert byte_order (nullifier_of 1 c) rows) m)
    where
      first : (z ≡ nullifier_of 1 c) ⊎ Memᴰ z rows → Memᴰ z (rows ++ nullifiers_of c)
      first (inl e) = own z (inl e)
      first (inr n) = Memᴰ.append_left (nullifiers_of c) n

      second : (z ≡ nullifier_of 2 c) ⊎ Memᴰ z (insert byte_order (nullifier_of 1 c) rows) → Memᴰ z (rows ++ nullifiers_of c)
      second (inl e) = own z (inr e)
      second (inr n) = first (member_insert byte_order byte_total (nullifier_of 1 c) z rows n)

  both_member : (z : List ℕ) → Memᴰ z (rows ++ nullifiers_of c) → Memᴰ z both
  both_member z m = insert_member byte_order byte_total (nullifier_of 2 c) z (insert byte_order (nullifier_of 1 c) rows) (go (Memᴰ.append_cases rows m))
    where
      under : (z ≡ nullifier_of 1 c) ⊎ Memᴰ z rows → Memᴰ z (insert byte_order (nullifier_of 1 c) rows)
      under n = insert_member byte_order byte_total (nullifier_of 1 c) z rows n

      two : (z ≡ nullifier_of 1 c) ⊎ Memᴰ z (nullifier_of 2 c ∷ []) → (z ≡ nullifier_of 2 c) ⊎ Memᴰ z (insert byte_order (nullifier_of 1 c) rows)
      two (inl e) = inr (under (inl e))
      two (inr n) = inl (Memᴰ.eq_of_singleton n)

      go : Memᴰ z rows ⊎ Memᴰ z (nullifiers_of c) → (z ≡ nullifier_of 2 c) ⊎ Memᴰ z (insert byte_order (nullifier_of 1 c) rows)
      go (inl n) = inr (under (inr n))
      go (inr n) = two (Memᴰ.cases_cons n)

-- THE THEOREM
pub after_one : (c : List ℕ) (b : Held) → (answer_on c b).number ≡ 0 → AfterOne c b (held_after (judged c) b)
unfolding held_after entered_of
after_one c b h =
    let t = b.table in
    let r = b.roll in
    let l = b.ledger in
    let e = ledger_is c t r l h in
    let g = ready_before c t r l h in
    let n = nullifier_long c in
    record {
      spent = λ z. (λ m. member_both c _ z (rw (rows_then c t r l h) at m), λ m. rw (rows_then c t r l h) (both_member c _ z m));
      rises = (sound_then c t r l h).rises;
      count = ap (λ (m : Ledger). m.nullifiers) e;
      table_length = length_then c t r l h;
      past_rows =
          rw (table_is c t r l h)
          (entered_drop l.nullifiers t (nullifier_of 1 c) (nullifier_of 2 c) (within (l.nullifiers + 2) most_nullifiers (length t) g.room) n.0 n.1 g.fresh (l.nullifiers + 2) (omega arith));
      tree = ap (λ (m : Ledger). m.tree) e;
      pool = pool_then c t r l h;
      anchors = ap (λ (m : Ledger). m.anchors) e;
      roll = refl;
    }
