-- The loop that reads a form, line by line: what was read so far, and what a line that is passed over, a field, a wrong line and the end make of it.
-- Assumes nothing.
use Prim.Native.Nat.{ℕ, ◌+◌, ◌≤◌, ◌<◌}
use mathlib.Core.Path.{◌≡◌, refl, sym, ap, ap₂, ◌∙◌}
use mathlib.Core.Bool.{true, false, cond}
use mathlib.Core.List.{List, [], ◌∷◌, ◌++◌}
use native.Mathlib.Omega.{arith}
use Rattle.std.specs.Prelude.{Ok, Err}
use lib.Dec.{ltb}
use lib.ListN.{length, drop, length-drop, drop_of_length-le}
use lib.Seq.{drop-drop}
use borrow.Author.Tests.{le-leb, lt-leb}
use Rattle.text.specs.Pen.{Pen, Wrote}
use Rattle.text.proofs.PenLaws.{start, then, text_as}
use Rattle.form.specs.declared.FormError.TheVariants.{Wrong, TooLong}
use Rattle.form.specs.Lines.{End, up_to, lines_in, value_of}
use Rattle.form.specs.Fields.{size_of, field_at, is_field, field_bytes}
use Rattle.form.specs.Forms.{Reading, reading, is_passed_over, read_from, reading_of}
use Rattle.form.proofs.LineLaws.{first_line}
use Rattle.form.proofs.FieldLaws.{reach, next_reach, reach_inside, in_table}

-- what reading the text s gives
abbrev pub whole : List ℕ → Reading
whole s = read_from 1 0 [] (lines_in s)

-- of the text s, index i is next, which is in line n; field k is expected. The bytes of the fields before it were written from p to q, and what is left to
-- read gives what the whole does
pub record Read (s : List ℕ) (p : Pen) (i n k : ℕ) (q : Pen) : Type 0 where
  pub bytes : List ℕ
  pub wrote : Wrote (reach 296 k) bytes p q
  pub left : whole s ≡ read_from n k bytes (lines_in (drop i s))

pub begin : (s : List ℕ) (p : Pen) → Read s p 0 1 0 p
begin s p = record { bytes = []; wrote = text_as (omega arith) refl (start _); left = refl }

-- the same by other names
pub read_as : {s : List ℕ} {p : Pen} {i n k k' : ℕ} {q q' : Pen} → k' ≡ k → q' ≡ q → Read s p i n k q → Read s p i n k' q'
read_as e f r = rw (e, f) r

module _ {s : List ℕ} {p : Pen} {i n k : ℕ} {q : Pen} (r : Read s p i n k q) where
  -- what was written, at any time
  pub page : k ≤ 28 → Wrote 4210 r.bytes p q
  page h = text_as (reach_inside k h) refl r.wrote

  -- the end
  pub ended : length s ≤ i → whole s ≡ reading (cond (ltb k 28) (Err (Wrong n k)) (Ok tt)) r.bytes
  unfolding read_from lines_in
  ended h = r.left ∙ rw (drop_of_length-le s h)

  -- the line l, of which j bytes were found
  module _ (l : List ℕ) (j : ℕ) (h : i < length s) (c : l ≡ up_to End (drop i s)) (d : j ≡ length (up_to End (drop i s))) where
    next : lines_in (drop i s) ≡ l ∷ lines_in (drop (i + (j + 1)) s)
    next =
        first_line (drop i s) (omega (arith, length-drop i s))
        ∙ ap₂ (λ (x : List ℕ) (t : List ℕ). x ∷ lines_in t) (sym c) (ap (λ (x : ℕ). drop (x + 1) (drop i s)) (sym d) ∙ drop-drop (j + 1) i s)

    pub pass : is_passed_over l ≡ true → Read s p (i + (j + 1)) (n + 1) k q
    unfolding read_from
    pass e = record { bytes = r.bytes; wrote = r.wrote; left = r.left ∙ rw (next, e) }

    pub add : {q' : Pen} → is_passed_over l ≡ false → is_field k l ≡ true → Wrote ((field_at k).gap + size_of 296 (field_at k).kind) (field_bytes k (value_of l)) q q'
        → Read s p (i + (j + 1)) (n + 1) (k + 1) q'
    unfolding read_from
    add e f w =
        record {
          bytes = r.bytes ++ field_bytes k (value_of l);
          wrote = text_as (omega (arith, next_reach 296 k (in_table k l f))) refl (then r.wrote w);
          left = r.left ∙ rw (next, e, f);
        }

    pub wrong : is_passed_over l ≡ false → is_field k l ≡ false → whole s ≡ reading (Err (Wrong n k)) r.bytes
    unfolding read_from
    wrong e f = r.left ∙ rw (next, e, f)

-- the text as a whole, by its length
pub too_long : (s : List ℕ) → 65536 < length s → reading_of s ≡ reading (Err TooLong) []
unfolding reading_of
too_long s h = rw (lt-leb (length s) 65536 h)

pub not_too_long : (s : List ℕ) → length s ≤ 65536 → reading_of s ≡ whole s
unfolding reading_of
not_too_long s h = rw (le-leb (length s) 65536 h)
