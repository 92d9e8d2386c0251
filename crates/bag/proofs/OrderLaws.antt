-- The rows of a table of contents, gone through one after the other, and where the bodies lie if all are in order.
-- Assumes nothing.
use Prim.Native.Nat.{ℕ, zero, suc, ◌+◌, ◌-◌, ◌≤◌, ◌<◌}
use mathlib.Core.Path.{◌≡◌, refl, sym, ◌∙◌}
use mathlib.Core.Bool.{true, false, ◌&&◌}
use mathlib.Core.List.{List}
use mathlib.Core.Logic.{⊎_elim}
use native.Mathlib.Nat.{eq-or-lt_of_le}
use native.Mathlib.Omega.{arith}
use borrow.Author.Tests.{eq-eqb, ne_eqb, eqb-true, leb-true}
use lib.Dec.{eqb, leb}
use lib.ListN.{length}
use Rattle.octets.proofs.BoolLaws.{and_both}
use Rattle.bag.specs.declared.Entry.{Entry}
use Rattle.bag.specs.Contents.{row_count, row_start, entry_of, kind_at, in_order, laid_out}

order_end : (i at : ℕ) (b : List ℕ) → in_order 0 i at b ≡ eqb at (length b)
unfolding in_order
order_end i at b = refl

order_row : (k i at : ℕ) (b : List ℕ) → in_order (suc k) i at b ≡ (eqb (entry_of i b).kind (kind_at i) && eqb (entry_of i b).offset at && in_order k (i + 1) (at + (entry_of i b).size) b)
unfolding in_order
order_row k i at b = refl

-- row i of n as it was read, with the kind that it must have; the rows before it were in order and left off at index at
module _ (n i at : ℕ) (b : List ℕ) (e : Entry) (kind : ℕ) (h : i < n) (d : e ≡ entry_of i b) (w : kind ≡ kind_at i) where
  left : n - i ≡ suc (n - (i + 1))
  left = omega arith

  pub next_row : e.kind ≡ kind → e.offset ≡ at → in_order (n - i) i at b ≡ in_order (n - (i + 1)) (i + 1) (at + e.size) b
  next_row p q = rw (left, order_row, sym d, eq-eqb e.kind (kind_at i) (p ∙ w), eq-eqb _ _ q)

  pub wrong_kind : (e.kind ≡ kind → ⊥) → in_order (n - i) i at b ≡ false
  wrong_kind p = rw (left, order_row, sym d, ne_eqb e.kind (kind_at i) (λ q. p (q ∙ sym w)))

  pub wrong_start : e.kind ≡ kind → (e.offset ≡ at → ⊥) → in_order (n - i) i at b ≡ false
  wrong_start p q = rw (left, order_row, sym d, eq-eqb e.kind (kind_at i) (p ∙ w), ne_eqb _ _ q)

pub all_rows : (n i at : ℕ) (b : List ℕ) → n ≤ i → in_order (n - i) i at b ≡ eqb at (length b)
all_rows n i at b h =
    let e : n - i ≡ 0 = omega arith in
    rw (e, order_end)

-- what a row in order says
record Row (k i at : ℕ) (b : List ℕ) : Type 0 where
  starts : (entry_of i b).offset ≡ at
  rest : in_order k (i + 1) (at + (entry_of i b).size) b ≡ true

row_of : (k i at : ℕ) (b : List ℕ) → in_order (suc k) i at b ≡ true → Row k i at b
row_of k i at b h =
    let e = entry_of i b in
    let r = in_order k (i + 1) (at + e.size) b in
    let p = and_both (eqb e.kind (kind_at i) && eqb e.offset at) r (sym (order_row k i at b) ∙ h) in
    record { starts = eqb-true e.offset at (and_both (eqb e.kind (kind_at i)) (eqb e.offset at) p.0).1; rest = p.1 }

-- the next body starts within the bag, and so each body lies in it
starts_within : (k i at : ℕ) (b : List ℕ) → in_order k i at b ≡ true → at ≤ length b
starts_within zero i at b h = let e : at ≡ length b = eqb-true at (length b) (sym (order_end i at b) ∙ h) in omega arith
starts_within (suc k) i at b h = let l : at + (entry_of i b).size ≤ length b = starts_within k (i + 1) (at + (entry_of i b).size) b (row_of k i at b h).rest in omega arith

lies_within : (k i at : ℕ) (b : List ℕ) → in_order k i at b ≡ true → (j : ℕ) → i ≤ j → j < i + k → (entry_of j b).offset + (entry_of j b).size ≤ length b
lies_within zero i at b h j l m = absurd (omega arith)
lies_within (suc k) i at b h j l m =
    let r = row_of k i at b h in
    ⊎_elim
    (λ e. rw (sym {a = i} {b = j} e, r.starts) (starts_within k (i + 1) (at + (entry_of i b).size) b r.rest))
    (λ f. lies_within k (i + 1) (at + (entry_of i b).size) b r.rest j (omega (arith, f)) (omega arith))
    (eq-or-lt_of_le l)

-- what a bag that keeps to the layout gives its readers
pub record Kept (b : List ℕ) : Type 0 where
  pub some : 1 ≤ row_count b
  pub few : row_count b ≤ 8
  pub lies : (i : ℕ) → i < row_count b → (entry_of i b).offset + (entry_of i b).size ≤ length b

pub kept : (b : List ℕ) → laid_out b ≡ true → Kept b
unfolding laid_out
kept b h =
    let n = row_count b in
    let p = and_both (leb (length b) 65536 && leb 1 n && leb n 8) (in_order n 0 (row_start n) b) h in
    let q = and_both (leb (length b) 65536 && leb 1 n) (leb n 8) p.0 in
    record {
      some = leb-true 1 n (and_both (leb (length b) 65536) (leb 1 n) q.0).1;
      few = leb-true n 8 q.1;
      lies = λ i l. lies_within n 0 (row_start n) b p.1 i (omega arith) (omega arith);
    }
