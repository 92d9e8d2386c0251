-- A table after some rows were put in: its rows, its length, the bytes past them, and that some and others may go in in either order.
-- Assumes nothing.
use Prim.Native.Nat.{ℕ, ◌+◌, ◌-◌, ◌*◌, ◌≤◌}
use mathlib.Core.Path.{◌≡◌, refl, sym, ap, ◌∙◌}
use mathlib.Core.Bool.{true, false}
use mathlib.Core.List.{List, [], ◌∷◌, ◌++◌, Memᴰ}
use native.Mathlib.Omega.{arith}
use lib.ListN.{length, drop, length-append, length-drop}
use lib.Seq.{drop-drop, drop-append-add}
use Rattle.octets.specs.Parts.{same}
use Rattle.octets.specs.Rows.{rows_of, flat, Long}
use Rattle.octets.proofs.RowLaws.{rows_length, rows_long, rows_flat_on, flat_length}
use Rattle.ledger.specs.Sorted.{is_gap, rising, find, insert, insert_all}
use Rattle.ledger.specs.Rows.{byte_order, table_with, with_row, table_with_two, Fresh}
use Rattle.std.specs.declared.cmp.Ordering.{Ordering}
use Rattle.std.specs.declared.cmp.Ordering.TheVariants.{Less, Equal, Greater}
use Rattle.ledger.proofs.ByteOrder.{byte_total, differ_order}
use Rattle.ledger.proofs.Several.{Each, Differ, Apart, New, apart_new, rising_all, length_all, gap_all, append_all, all_comm, any_order}

pub long_insert : (x : List ℕ) (l : List (List ℕ)) → length x ≡ 32 → Long l → Long (insert byte_order x l)
unfolding insert Long
long_insert x [] h g = (h, tt)
long_insert x (y ∷ l) h g = go (byte_order x y) refl (long_insert x l h g.1)
  where
    go : (o : Ordering) → byte_order x y ≡ o → Long (insert byte_order x l) → Long (insert byte_order x (y ∷ l))
    go Less o r = simp o (h, g)
    go Equal o r = simp o g
    go Greater o r = simp o (g.0, r)

-- rows that are not the same differ in byte order
all_differ : (r : List ℕ) (rs : List (List ℕ)) → Each (λ (x : List ℕ). same x r ≡ false) rs → Each (λ (x : List ℕ). Differ byte_order x r) rs
unfolding Each
all_differ r [] d = tt
all_differ r (x ∷ rs) d = (differ_order x r d.0, all_differ r rs d.1)

long_all : (rs l : List (List ℕ)) → Long rs → Long l → Long (insert_all byte_order rs l)
unfolding insert_all Long
long_all [] l h g = g
long_all (r ∷ rs) l h g = long_all rs (insert byte_order r l) h.1 (long_insert r l h.0 g)

with_is : (n : ℕ) (t : List ℕ) (rs : List (List ℕ)) → table_with n t rs ≡ flat (insert_all byte_order rs (rows_of n t)) ++ drop ((n + length rs) * 32) t
unfolding table_with
with_is n t rs = refl

-- some rows put in
module _ (n : ℕ) (t : List ℕ) (rs : List (List ℕ)) (room : (n + length rs) * 32 ≤ length t) (long : Long rs) (new : New byte_order rs (rows_of n t)) where
  abbrev all : List (List ℕ)
  all = insert_all byte_order rs (rows_of n t)

  all_long : Long all
  all_long = long_all rs (rows_of n t) long (rows_long n t (omega arith))

  all_length : length all ≡ n + length rs
  all_length = omega (arith, length_all byte_order byte_total rs (rows_of n t) new, rows_length n t)

  all_bytes : length (flat all) ≡ (n + length rs) * 32
  all_bytes = omega (arith, flat_length all all_long, all_length)

  pub rows_with : rows_of (n + length rs) (table_with n t rs) ≡ insert_all byte_order rs (rows_of n t)
  unfolding table_with
  rows_with = rw (← all_length) (rows_flat_on all (drop (length all * 32) t) all_long)

  pub length_with : length (table_with n t rs) ≡ length t
  unfolding table_with
  length_with = omega (arith, length-append (flat all) (drop ((n + length rs) * 32) t), all_bytes, length-drop ((n + length rs) * 32) t)

  -- the bytes from a later row on
  pub drop_with : (k : ℕ) → n + length rs ≤ k → drop (k * 32) (table_with n t rs) ≡ drop (k * 32) t
  unfolding table_with
  drop_with k h =
      let m = (n + length rs) * 32 in
      let e : k * 32 ≡ length (flat all) + (k * 32 - m) = omega (arith, all_bytes) in
      let f : m + (k * 32 - m) ≡ k * 32 = omega arith in
      ap (λ (j : ℕ). drop j (flat all ++ drop m t)) e
      ∙ drop-append-add (flat all) (drop m t) (k * 32 - m)
      ∙ drop-drop (k * 32 - m) m t
      ∙ ap (λ (j : ℕ). drop j t) f

  -- the rows still rise
  pub rising_with : rising byte_order (rows_of n t) ≡ true → rising byte_order (rows_of (n + length rs) (table_with n t rs)) ≡ true
  rising_with h = rw rows_with (rising_all byte_order byte_total rs (rows_of n t) h)

  -- whether another row stands there has not changed
  pub gap_with : (r : List ℕ) → Each (λ (x : List ℕ). same x r ≡ false) rs
      → is_gap (find byte_order r (rows_of (n + length rs) (table_with n t rs))) ≡ is_gap (find byte_order r (rows_of n t))
  gap_with r d = rw rows_with (gap_all byte_order byte_total r rs (rows_of n t) (all_differ r rs d))

  -- others put in behind them: all are in
  pub with_more : (ss : List (List ℕ)) → table_with (n + length rs) (table_with n t rs) ss ≡ table_with n t (rs ++ ss)
  with_more ss =
      let e : n + length (rs ++ ss) ≡ n + length rs + length ss = omega (arith, length-append rs ss) in
      with_is (n + length rs) (table_with n t rs) ss
      ∙ rw (rows_with, drop_with (n + length rs + length ss) (omega arith))
      (sym (with_is n t (rs ++ ss) ∙ rw (e, append_all byte_order byte_total rs ss (rows_of n t))))

-- some rows and others, each of which can be put in: the bytes are the same in either order
pub order_free : (n : ℕ) (t : List ℕ) (rs ss : List (List ℕ)) → (n + length rs + length ss) * 32 ≤ length t → Long rs → Long ss
    → New byte_order rs (rows_of n t) → New byte_order ss (rows_of n t)
    → table_with (n + length rs) (table_with n t rs) ss ≡ table_with (n + length ss) (table_with n t ss) rs
order_free n t rs ss room lr ls nr ns =
    let e : n + length rs + length ss ≡ n + length ss + length rs = omega arith in
    with_is (n + length rs) (table_with n t rs) ss
    ∙ rw (rows_with n t rs (omega arith) lr nr, drop_with n t rs (omega arith) lr nr (n + length rs + length ss) (omega arith), all_comm byte_order byte_total ss rs (rows_of n t), e)
    (sym (with_is (n + length ss) (table_with n t ss) rs ∙ rw (rows_with n t ss (omega arith) ls ns, drop_with n t ss (omega arith) ls ns (n + length ss + length rs) (omega arith))))

-- as many rows put in in any other order: the same bytes
pub any_order_with : (n : ℕ) (t : List ℕ) (rs ss : List (List ℕ)) → rising byte_order (rows_of n t) ≡ true → length rs ≡ length ss
    → ((z : List ℕ) → Memᴰ z rs → Memᴰ z ss) → ((z : List ℕ) → Memᴰ z ss → Memᴰ z rs) → table_with n t rs ≡ table_with n t ss
any_order_with n t rs ss h e to from =
    with_is n t rs ∙ rw (any_order byte_order byte_total rs ss (rows_of n t) h to from, e) (sym (with_is n t ss))

-- two rows that can be put in, as a list
pub fresh_new : (n : ℕ) (t a b : List ℕ) → Fresh n t a b → New byte_order (a ∷ b ∷ []) (rows_of n t)
unfolding Each Apart
fresh_new n t a b f =
    apart_new byte_order byte_total (a ∷ b ∷ []) (rows_of n t) ((differ_order a b f.differ, tt), (tt, tt)) (f.gap_a, (f.gap_b, tt))

-- two rows put in, one after the other
module _ (n : ℕ) (t a b : List ℕ) (room : (n + 2) * 32 ≤ length t) (long-a : length a ≡ 32) (f : Fresh n t a b) where
  one_long : Long (a ∷ [])
  unfolding Long
  one_long = (long-a, tt)

  one_new : New byte_order (a ∷ []) (rows_of n t)
  unfolding New
  one_new = (f.gap_a, tt)

  -- after the first the second can go in
  pub second_room : (n + 1 + 1) * 32 ≤ length (with_row n t a)
  second_room = omega (arith, length_with n t (a ∷ []) (omega arith) one_long one_new)

  pub second_rising : rising byte_order (rows_of n t) ≡ true → rising byte_order (rows_of (n + 1) (with_row n t a)) ≡ true
  second_rising h = rising_with n t (a ∷ []) (omega arith) one_long one_new h

  pub second_gap : is_gap (find byte_order b (rows_of (n + 1) (with_row n t a))) ≡ true
  unfolding Each
  second_gap = gap_with n t (a ∷ []) (omega arith) one_long one_new b (f.differ, tt) ∙ f.gap_b

  -- and then both are in
  pub entered_both : with_row (n + 1) (with_row n t a) b ≡ table_with_two n t a b
  entered_both = with_more n t (a ∷ []) (omega arith) one_long one_new (b ∷ [])

-- the bytes from a later row on, and two pairs in either order: what is asked of two rows by name
pub entered_drop : (n : ℕ) (t a b : List ℕ) → (n + 2) * 32 ≤ length t → length a ≡ 32 → length b ≡ 32 → Fresh n t a b
    → (k : ℕ) → n + 2 ≤ k → drop (k * 32) (table_with_two n t a b) ≡ drop (k * 32) t
unfolding Long
entered_drop n t a b room ha hb f = drop_with n t (a ∷ b ∷ []) room (ha, (hb, tt)) (fresh_new n t a b f)

pub either_order : (n : ℕ) (t a b c d : List ℕ) → (n + 4) * 32 ≤ length t → Long (a ∷ b ∷ c ∷ d ∷ []) → Fresh n t a b → Fresh n t c d
    → table_with_two (n + 2) (table_with_two n t a b) c d ≡ table_with_two (n + 2) (table_with_two n t c d) a b
unfolding Long
either_order n t a b c d room long f g =
    order_free n t (a ∷ b ∷ []) (c ∷ d ∷ []) (omega arith) (long.0, (long.1.0, tt)) long.1.1 (fresh_new n t a b f) (fresh_new n t c d g)
