-- The rows of a table: which they are, what a turn of each loop over them learns, and what moving bytes up makes of them.
-- Assumes nothing.
use Prim.Native.Nat.{ℕ, zero, suc, ◌+◌, ◌-◌, ◌*◌, ◌/◌, ◌<◌, ◌≤◌}
use mathlib.Core.Path.{◌≡◌, refl, sym, ap, ap₂, ◌∙◌}
use mathlib.Core.Bool.{true, ◌||◌}
use mathlib.Core.List.{List, [], ◌∷◌, ◌++◌, append_assoc, append-nil}
use native.Mathlib.Omega.{arith}
use borrow.Rule.Slice.PartMut.{put_mid}
use lib.ListN.{length, take, drop, take-append-drop, drop_of_length-le, length-append, length-drop}
use lib.Seq.{take-take, take-add, drop-drop, take-append-le, drop-append-le, drop_at, length-take-le}
use Rattle.std.proofs.lemmas.List.{drop-take}
use Rattle.std.specs.List.{copy_within, list_any}
use Rattle.std.specs.Ordering.{is_eq}
use Rattle.std.specs.Simd.{first_chunks}
use Rattle.octets.specs.Parts.{pasted}
use Rattle.octets.specs.Rows.{rows_of, flat}
use Rattle.octets.proofs.PartLaws.{pasted_is}
use Rattle.octets.proofs.RowLaws.{rows_length, rows_at, take_rows, drop_rows, flat_append, flat_rows}
use Rattle.units.specs.RowNumbers.{row_numbered}
use Rattle.ledger.specs.Sorted.{place_of, is_gap, rising, find, insert_all}
use Rattle.std.specs.declared.cmp.Ordering.TheVariants.{Equal}
use Rattle.ledger.specs.Rows.{byte_order, row_at, shifted, table_with, with_row, among}
use Rattle.std.specs.Prelude.{Ok}
use Rattle.ledger.proofs.ByteOrder.{byte_total, same_order}
use Rattle.ledger.proofs.Sorting.{find_at, place_le, insert_gap}

-- where a row stands among the first n
pub stands_at : (n k : ℕ) (t r : List ℕ) → rising byte_order (rows_of n t) ≡ true → k < n → byte_order r (row_at t k) ≡ Equal
    → Ok (row_numbered k) ≡ find byte_order r (rows_of n t)
stands_at n k t r rises h e =
    sym (find_at byte_order byte_total r [] (rows_of n t) k rises (omega (arith, rows_length n t)) (rw (rows_at n k t h) e))

-- the first n rows as the chunks of as many bytes
chunked : (n : ℕ) (t : List ℕ) → n * 32 ≤ length t → first_chunks 32 n (take (n * 32) t) ≡ rows_of n t
unfolding rows_of
chunked zero t h = refl
chunked (suc n) t h =
    let e : suc n * 32 ≡ 32 + n * 32 = omega arith in
    rw (e, drop-take 32 (n * 32) t, take-take 32 (32 + n * 32) t (omega arith))
    (ap (λ (l : List (List ℕ)). take 32 t ∷ l) (chunked n (drop 32 t) (omega (arith, length-drop 32 t))))

pub rows_chunks : (n : ℕ) (t : List ℕ) → n * 32 ≤ length t → first_chunks 32 (length (take (n * 32) t) / 32) (take (n * 32) t) ≡ rows_of n t
rows_chunks n t h =
    let e : length (take (n * 32) t) / 32 ≡ n = omega (arith, length-take-le (n * 32) t h) in
    rw e (chunked n t h)

-- a row is among some exactly if it is equal to any of them, by the order
pub any_among : (r : List ℕ) (l : List (List ℕ)) → list_any (λ x. is_eq (byte_order r x)) l ≡ among r l
unfolding among
any_among r [] = refl
any_among r (x ∷ l) = ap₂ ◌||◌ (sym (same_order r x)) (any_among r l)

-- the bytes that the loop has moved up: none, and one more
pub shifted_none : (t : List ℕ) (to : ℕ) → t ≡ shifted t to to
unfolding shifted
shifted_none t to =
    let e : to - to ≡ 0 = omega arith in
    rw e (sym (take-append-drop (to + 32) t))

-- a part of the front is the same whatever follows it
front_part : (k i n : ℕ) (t q : List ℕ) → i + k ≤ n → n ≤ length t → take k (drop i (take n t ++ q)) ≡ take k (drop i t)
front_part k i n t q h room = front q ∙ sym (front (drop n t)) ∙ ap (λ (s : List ℕ). take k (drop i s)) (take-append-drop n t)
  where
    front : (q : List ℕ) → take k (drop i (take n t ++ q)) ≡ take k (drop i (take n t))
    front q =
        let long = length-take-le n t room in
        let left = length-drop i (take n t) in
        rw (drop-append-le i (take n t) q (omega arith)) (take-append-le k (drop i (take n t)) q (omega arith))

-- the bytes from index i up to index j copied one row up
pub shifted_copy : (t : List ℕ) (i j : ℕ) → i ≤ j → copy_within t i j (i + 32) ≡ shifted t i j
unfolding shifted
shifted_copy t i j h =
    let e : i + 32 + (j - i) ≡ j + 32 = omega arith in
    rw e (append_assoc (take (i + 32) t) (take (j - i) (drop i t)) (drop (j + 32) t))

-- four rows copied within the five from index i on
pub shifted_four : (t : List ℕ) (i : ℕ) → i + 160 ≤ length t → put_mid i 160 t (copy_within (take 160 (drop i t)) 0 128 32) ≡ shifted t i (i + 128)
unfolding shifted
shifted_four t i room =
    let q = drop i t in
    let none : length (take 160 q) ≤ 160 = omega (arith, length-take-le 160 q (omega (arith, length-drop i t))) in
    let e : i + 128 - i ≡ 128 = omega arith in
    let f : i + 128 + 32 ≡ i + 160 = omega arith in
    rw (take-take 32 160 q (omega arith), take-take 128 160 q (omega arith), drop_of_length-le (take 160 q) none, e, f, take-add i 32 t)
    (simp (append_assoc, append-nil) (ap (λ (l : List ℕ). take i t ++ (take 32 q ++ (take 128 q ++ l))) (drop-drop 160 i t)))

-- the bytes above index m moved up, and then those from index i up to there: all from i on
pub shifted_more : (t : List ℕ) (i m to : ℕ) → i ≤ m → m ≤ to → to + 32 ≤ length t → shifted (shifted t m to) i m ≡ shifted t i to
unfolding shifted
shifted_more t i m to low high room =
    let head = take (m + 32) t in
    let rest = take (to - m) (drop m t) ++ drop (to + 32) t in
    let long : length head ≡ m + 32 = length-take-le (m + 32) t (omega arith) in
    let one = take-append-le (i + 32) head rest (omega arith) ∙ take-take (i + 32) (m + 32) t (omega arith) in
    let two = front_part (m - i) i (m + 32) t rest (omega arith) (omega arith) in
    let three = drop_at head rest (m + 32) long in
    let e : to - i ≡ m - i + (to - m) = omega arith in
    let f : i + (m - i) ≡ m = omega arith in
    rw (one, two, three, e, take-add (m - i) (to - m) (drop i t), drop-drop (m - i) i t, f)
    (ap (λ (s : List ℕ). take (i + 32) t ++ s) (sym (append_assoc (take (m - i) (drop i t)) (take (to - m) (drop m t)) (drop (to + 32) t))))

-- a row that stands nowhere, put in at its place k: the rows from there on moved up, and the row written in their place
module _ (n k : ℕ) (t r : List ℕ) (room : (n + 1) * 32 ≤ length t) (long : length r ≡ 32) (at : k ≡ place_of (find byte_order r (rows_of n t))) where
  place_rows : k ≤ n
  place_rows = omega (arith, place_le byte_order byte_total r (rows_of n t), rows_length n t)

  abbrev put_in : List ℕ
  put_in = take (k * 32) t ++ (r ++ (take ((n - k) * 32) (drop (k * 32) t) ++ drop ((n + 1) * 32) t))

  by_rows : is_gap (find byte_order r (rows_of n t)) ≡ true → with_row n t r ≡ put_in
  unfolding table_with insert_all flat
  by_rows g =
      rw (insert_gap byte_order byte_total r (rows_of n t) g, ← at, take_rows k n t place_rows, drop_rows k n t place_rows, flat_append (rows_of k t) (r ∷ rows_of (n - k) (drop (k * 32) t)), flat_rows k t, flat_rows (n - k) (drop (k * 32) t))
      (simp append_assoc)

  by_bytes : pasted (k * 32) r (shifted t (k * 32) (n * 32)) ≡ put_in
  unfolding shifted
  by_bytes =
      let s = k * 32 in
      let h = place_rows in
      let p = take (s + 32) t in
      let q = take (n * 32 - s) (drop s t) ++ drop (n * 32 + 32) t in
      let lp : length p ≡ s + 32 = length-take-le (s + 32) t (omega arith) in
      let e1 : n * 32 - s ≡ (n - k) * 32 = omega arith in
      let e2 : n * 32 + 32 ≡ (n + 1) * 32 = omega arith in
      pasted_is s r (p ++ q) (omega (arith, length-append p q))
      ∙ rw (long, drop_at p q (s + 32) lp, take-append-le s p q (omega arith), take-take s (s + 32) t (omega arith), e1, e2)

  pub put_row : is_gap (find byte_order r (rows_of n t)) ≡ true → pasted (k * 32) r (shifted t (k * 32) (n * 32)) ≡ with_row n t r
  put_row g = by_bytes ∙ sym (by_rows g)
