-- The day list in bytes is the day list of `books`: what a row is rewritten to, and that all others stay.
-- Assumes nothing.
use Prim.Native.Nat.{ℕ, zero, suc, ◌+◌, ◌*◌, ◌/◌, ◌%◌, ◌^◌, ◌≤◌, ◌<◌}
use mathlib.Core.Path.{◌≡◌, refl, sym, ap, ◌∙◌}
use mathlib.Core.Bool.{true}
use mathlib.Core.List.{List, ◌++◌, append_assoc}
use native.Mathlib.Decide.{dec_le}
use native.Mathlib.Nat.{lt_of_not-le}
use native.Mathlib.Omega.{arith}
use lib.ListN.{length, take, drop, set, length-drop, take-append-drop, get_or-append}
use lib.Seq.{take-add, drop-drop, drop_at, length-take-le}
use borrow.Author.Tests.{lt-ltb, le-ltb}
use Rattle.octets.specs.Parts.{field, pasted}
use Rattle.octets.specs.Numbers.{little_bytes}
use Rattle.octets.proofs.NumberLaws.{little_bytes_lem}
use Rattle.octets.proofs.PartLaws.{field_left, field_all, pasted_is, pasted_length}
use Rattle.books.specs.DayList.{with_day_row}
use Rattle.host.specs.Books.{day_row, day_answer, day_after, day_row_of, day_rows, day_list, is_answer}

-- what is copied in past the first k bytes is copied into the rest
pasted_past : (k at : ℕ) (t s : List ℕ) → k + at + length t ≤ length s → pasted (k + at) t s ≡ take k s ++ pasted at t (drop k s)
pasted_past k at t s h =
    let e : k + (at + length t) ≡ k + at + length t = omega arith in
    pasted_is (k + at) t s h
    ∙ rw (take-add k at s, pasted_is at t (drop k s) (omega (arith, length-drop k s)), drop-drop (at + length t) k s, e)
    (append_assoc (take k s) (take at (drop k s)) (t ++ drop (k + at + length t) s))

-- a row is read from its own six bytes
read_front : (p q : List ℕ) → length p ≡ 6 → day_row_of (p ++ q) ≡ day_row_of p
unfolding day_row_of
read_front p q h =
    rw (field_left 0 4 p q (omega arith), get_or-append p q 0 4 (omega arith), get_or-append p q 0 5 (omega arith))

rows_length : (n : ℕ) (b : List ℕ) → length (day_rows n b) ≡ n
unfolding day_rows
rows_length zero b = refl
rows_length (suc n) b = ap suc (rows_length n (drop 6 b))

-- one row copied in
rows_set : (n i : ℕ) (x b : List ℕ) → i < n → 6 * n ≤ length b → length x ≡ 6 → day_rows n (pasted (6 * i) x b) ≡ set (day_rows n b) i (day_row_of x)
unfolding day_rows
rows_set zero i x b h l m = absurd (omega arith)
rows_set (suc n) zero x b h l m =
    let e = pasted_is 0 x b (omega arith) in
    rw (e, read_front x (drop (0 + length x) b) m, drop_at x (drop (0 + length x) b) 6 m, m)
rows_set (suc n) (suc i) x b h l m =
    let s : 6 * suc i ≡ 6 + 6 * i = omega arith in
    let k : length (take 6 b) ≡ 6 = length-take-le 6 b (omega arith) in
    let e = pasted_past 6 (6 * i) x b (omega arith) in
    let r : day_row_of (take 6 b) ≡ day_row_of b = sym (read_front (take 6 b) (drop 6 b) k) ∙ ap day_row_of (take-append-drop 6 b) in
    rw (s, e, read_front (take 6 b) (pasted (6 * i) x (drop 6 b)) k, drop_at (take 6 b) (pasted (6 * i) x (drop 6 b)) 6 k, r, rows_set n i x (drop 6 b) (omega arith) (omega (arith, length-drop 6 b)) m)

-- the row that is written is read back
row_read : (seal a : ℕ) → seal < 2 ^ 32 → day_row_of (day_row seal a) ≡ record { seal = seal; answer = a % 256; place = a / 256 % 256 }
unfolding day_row_of day_row little_bytes
row_read seal a h =
    let w = little_bytes 4 seal in
    let f : field 0 4 (w ++ little_bytes 2 a) ≡ w = field_left 0 4 w (little_bytes 2 a) (omega arith) ∙ field_all w in
    rw (f, little_bytes_lem 4 seal h)

row_long : (seal a : ℕ) → length (day_row seal a) ≡ 6
unfolding day_row little_bytes
row_long seal a = refl

-- the law, of an answer that is one
pub day_entered : (i seal a : ℕ) (b : List ℕ) → seal < 2 ^ 32 → is_answer a ≡ true
    → day_list (day_after i seal a b) ≡ with_day_row i (record { seal = seal; answer = a % 256; place = a / 256 % 256 }) (day_list b)
unfolding day_answer day_after with_day_row
day_entered i seal a b h k = go (dec_le (length b / 6) i)
  where
    go : Dec (length b / 6 ≤ i) → day_list (day_after i seal a b) ≡ with_day_row i (record { seal = seal; answer = a % 256; place = a / 256 % 256 }) (day_list b)
    go (yes l) =
        rw (le-ltb i (length b / 6) l, rows_length (length b / 6) b, le-ltb i (length b / 6) l)
    go (no l) =
        let m : i < length b / 6 = lt_of_not-le l in
        rw (lt-ltb i (length b / 6) m, k, rows_length (length b / 6) b, lt-ltb i (length b / 6) m, pasted_length (6 * i) (day_row seal a) b, rows_set (length b / 6) i (day_row seal a) b m (omega arith) (row_long seal a), row_read seal a h)
