-- Refusal 8 by what a search finds of each nullifier, and where the nullifier that it names then stands.
-- Assumes nothing.
use Prim.Native.Nat.{ℕ, suc, ◌<◌}
use mathlib.Core.Path.{◌≡◌, refl, sym, ap, ◌∙◌}
use mathlib.Core.Bool.{true, false, not, true≢false}
use mathlib.Core.List.{List, [], ◌∷◌}
use native.Mathlib.Omega.{arith}
use borrow.Author.Tests.{not-true}
use Rattle.octets.proofs.RowLaws.{rows_length, rows_at}
use lib.ListN.{get_or}
use Rattle.units.specs.declared.Row.{Row}
use Rattle.units.specs.RowNumbers.{row_numbered}
use Rattle.refusals.specs.Rules.{answer_in_row, accepted, first}
use Rattle.ledger.specs.declared.Ledger.{Ledger}
use Rattle.std.specs.declared.cmp.Ordering.{Ordering}
use Rattle.std.specs.declared.cmp.Ordering.TheVariants.{Less, Equal, Greater}
use Rattle.std.specs.Prelude.{Ok, Err}
use Rattle.ledger.specs.Sorted.{Found, place_of, is_gap, rising, find}
use Rattle.ledger.specs.Rows.{byte_order, row_at, among, row_number_of}
use Rattle.ledger.specs.Ledgers.{spent_rows, no8}
use Rattle.ledger.proofs.ByteOrder.{byte_total, same_order}
use Rattle.ledger.proofs.Sorting.{gap_later, place_later, level}
use Rattle.ledger.proofs.Members.{at_there}
use Rattle.ledger.proofs.RowLaws.{stands_at}
use Rattle.ledger.proofs.Soundness.{among_found}

-- what a search finds stands in the row that it answers
found_row : (x : List ℕ) (l : List (List ℕ)) → is_gap (find byte_order x l) ≡ false → place_of (find byte_order x l) ≡ row_number_of x l
unfolding find row_number_of
found_row x [] h = absurd (true≢false h)
found_row x (y ∷ l) h = go (byte_order x y) refl (found_row x l)
  where
    go : (o : Ordering) → byte_order x y ≡ o → (is_gap (find byte_order x l) ≡ false → place_of (find byte_order x l) ≡ row_number_of x l)
        → place_of (find byte_order x (y ∷ l)) ≡ row_number_of x (y ∷ l)
    go Less o r = absurd (true≢false (simp o at h))
    go Equal o r = simp (same_order x y, o)
    go Greater o r = simp (same_order x y, o, place_later) (ap suc (r (sym (gap_later (find byte_order x l)) ∙ (simp o at h))))

in_row : (x : List ℕ) (l : List (List ℕ)) (row : Row) → Ok row ≡ find byte_order x l → row.0 ≡ row_number_of x l
in_row x l row e = ap place_of e ∙ found_row x l (ap is_gap (sym e))

-- the search's answer, and whether the nullifier is in the table
module _ (t : List ℕ) (l : Ledger) (one two : List ℕ) (rises : rising byte_order (spent_rows t l) ≡ true) where
  told : (x : List ℕ) (f : Found) → f ≡ find byte_order x (spent_rows t l) → among x (spent_rows t l) ≡ not (is_gap f)
  told x f e = among_found x (spent_rows t l) rises ∙ ap (λ (g : Found). not (is_gap g)) (sym e)

  pub first_spent : (row : Row) → Ok row ≡ find byte_order one (spent_rows t l) → answer_in_row 8 1 row.0 ≡ first (no8 t l one two)
  unfolding no8 first
  first_spent row e = rw (told one (Ok row) e, in_row one (spent_rows t l) row e)

  pub second_spent : (gap row : Row) → Err gap ≡ find byte_order one (spent_rows t l) → Ok row ≡ find byte_order two (spent_rows t l)
      → answer_in_row 8 2 row.0 ≡ first (no8 t l one two)
  unfolding no8 first
  second_spent gap row e f = rw (told one (Err gap) e, told two (Ok row) f, in_row two (spent_rows t l) row f)

  pub none_spent : (gap gap' : Row) → Err gap ≡ find byte_order one (spent_rows t l) → Err gap' ≡ find byte_order two (spent_rows t l)
      → accepted ≡ first (no8 t l one two)
  unfolding no8 first
  none_spent gap gap' e f = rw (told one (Err gap) e, told two (Err gap') f)

-- a nullifier that is in the table stands in the row that is carried, which is in use, and in no other used row
module _ (t : List ℕ) (l : Ledger) (x : List ℕ) (rises : rising byte_order (spent_rows t l) ≡ true) (h : among x (spent_rows t l) ≡ true) where
  is_found : is_gap (find byte_order x (spent_rows t l)) ≡ false
  is_found = not-true (is_gap (find byte_order x (spent_rows t l))) (sym (among_found x (spent_rows t l) rises) ∙ h)

  pub row_used : row_number_of x (spent_rows t l) < l.nullifiers
  unfolding spent_rows
  row_used = omega (arith, (at_there byte_order byte_total x [] (spent_rows t l) is_found).0, found_row x (spent_rows t l) is_found, rows_length l.nullifiers t)

  pub row_there : row_at t (row_number_of x (spent_rows t l)) ≡ x
  unfolding spent_rows
  row_there =
      sym (rows_at l.nullifiers (row_number_of x (spent_rows t l)) t row_used)
      ∙ ap (λ (k : ℕ). get_or (spent_rows t l) k []) (sym (found_row x (spent_rows t l) is_found)) ∙ (at_there byte_order byte_total x [] (spent_rows t l) is_found).1

  pub row_alone : (j : ℕ) → j < l.nullifiers → row_at t j ≡ x → j ≡ row_number_of x (spent_rows t l)
  unfolding spent_rows
  row_alone j b e = in_row x (spent_rows t l) (row_numbered j) (stands_at l.nullifiers j t x rises b (rw e (level byte_order byte_total x)))
