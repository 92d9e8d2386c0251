-- Texts written one behind the other, and what is then on the page.
-- Assumes nothing.
use Prim.Native.Nat.{ℕ, ◌+◌, ◌*◌, ◌≤◌, ◌<◌}
use mathlib.Core.Path.{◌≡◌, refl, sym, ap, ap₂, ◌∙◌}
use mathlib.Core.List.{List, [], ◌∷◌, ◌++◌, append_assoc, append-nil, flat_map}
use native.Mathlib.Nat.{add-zero, zero-add}
use native.Mathlib.Numerals.{add-one}
use native.Mathlib.Omega.{arith}
use lib.ListN.{length, take, drop, set, get_or, length-append, length-set, take-append-drop}
use lib.Seq.{take-suc, take-suc-set, drop-set-lt, take_at, drop_at}
use borrow.Author.Tests.{lt-ltb, le-ltb}
use Rattle.octets.specs.Parts.{pasted, zeros}
use Rattle.octets.proofs.PartLaws.{pasted_is, zeros_length}
use Rattle.text.specs.Pen.{Pen, pen, inked, written, Wrote, Rendered, Holds}

-- Writing in steps is writing all of it. There is no premise: what does not fit is lost in both ways alike
written_append : (s t : List ℕ) (p : Pen) → written (s ++ t) p ≡ written t (written s p)
unfolding written
written_append [] t p = refl
written_append (x ∷ s) t p = written_append s t (inked x p)

-- THE LAW OF COMPOSITION: one text behind the other
pub then : {a b : ℕ} {s t : List ℕ} {p q r : Pen} → Wrote a s p q → Wrote b t q r → Wrote (a + b) (s ++ t) p r
then {a} {b} {s} {t} {p} e f =
    record {
      made = f.made ∙ ap (written t) e.made ∙ sym (written_append s t p);
      short = omega (arith, length-append s t, e.short, f.short);
    }

-- nothing yet
pub start : (p : Pen) → Wrote 0 [] p p
unfolding written
start p = record { made = refl; short = omega arith }

-- the same text by another name, with a bound of its own
pub short_as : {a b : ℕ} {s t : List ℕ} {p q : Pen} → length t ≤ b → s ≡ t → Wrote a s p q → Wrote b t p q
short_as {p = p} h e f = record { made = f.made ∙ ap (λ (l : List ℕ). written l p) e; short = h }

-- with the bound that it had, or a larger one
pub text_as : {a b : ℕ} {s t : List ℕ} {p q : Pen} → a ≤ b → s ≡ t → Wrote a s p q → Wrote b t p q
text_as h e f = short_as (omega (arith, ap length e, f.short)) e f

-- one byte where there is room, and where there is none
inked_room : (x : ℕ) (m : List ℕ) (i : ℕ) → i < length m → inked x (pen m i) ≡ pen (set m i x) (i + 1)
unfolding inked
inked_room x m i h = rw (lt-ltb i (length m) h)

pub one_room : (x : ℕ) (m : List ℕ) (i : ℕ) → i < length m → Wrote 1 (x ∷ []) (pen m i) (pen (set m i x) (i + 1))
unfolding written
one_room x m i h = record { made = sym (inked_room x m i h); short = omega arith }

pub one_full : (x : ℕ) (m : List ℕ) (i : ℕ) → length m ≤ i → Wrote 1 (x ∷ []) (pen m i) (pen m i)
unfolding inked written
one_full x m i h = record { made = rw (le-ltb i (length m) h); short = omega arith }

-- A LIST WRITTEN MEMBER BY MEMBER: a turn of the loop, where each member's text is at most so long
each_append : {A : Type 0} (f : A → List ℕ) (s t : List A) → flat_map f (s ++ t) ≡ flat_map f s ++ flat_map f t
unfolding flat_map
each_append f [] t = refl
each_append f (x ∷ s) t = ap (λ (l : List ℕ). f x ++ l) (each_append f s t) ∙ sym (append_assoc (f x) (flat_map f s) (flat_map f t))

each_one : {A : Type 0} (f : A → List ℕ) (x : A) → flat_map f (x ∷ []) ≡ f x
unfolding flat_map
each_one f x = append-nil (f x)

pub one_more : {A : Type 0} {most : ℕ} {p q r : Pen} (f : A → List ℕ) (l : List A) (i : ℕ) (d : A) → i < length l
    → Wrote (most * i) (flat_map f (take i l)) p q → Wrote most (f (get_or l i d)) q r → Wrote (most * (i + 1)) (flat_map f (take (i + 1) l)) p r
one_more f l i d h e g =
    text_as (omega arith) (sym (rw (add-one, take-suc l i d h, each_append f (take i l) (get_or l i d ∷ []), each_one f (get_or l i d)))) (then e g)

-- the bytes of a text, each as itself
pub each_byte : (t : List ℕ) → flat_map (λ x. x ∷ []) t ≡ t
unfolding flat_map
each_byte [] = refl
each_byte (x ∷ t) = ap (λ (l : List ℕ). x ∷ l) (each_byte t)

-- A TEXT THAT FITS is on the page, and the rest of the page is as it was
pub written_fits : (t m : List ℕ) (i : ℕ) → i + length t ≤ length m → written t (pen m i) ≡ pen (pasted i t m) (i + length t)
unfolding written
written_fits [] m i h = ap₂ pen (sym (pasted_is i [] m h ∙ rw add-zero (take-append-drop i m))) (sym (add-zero i))
written_fits (x ∷ t) m i h =
    let k : i < length m = omega arith in
    let l : (i + 1) + length t ≤ length (set m i x) = omega (arith, length-set m i x) in
    let n : (i + 1) + length t ≡ i + length (x ∷ t) = omega arith in
    let e : take (i + 1) (set m i x) ≡ take i m ++ (x ∷ []) = rw add-one (take-suc-set m i x k) in
    let d : drop ((i + 1) + length t) (set m i x) ≡ drop (i + length (x ∷ t)) m = rw n (drop-set-lt (i + length (x ∷ t)) m i x (omega arith)) in
    rw (inked_room x m i k) (written_fits t (set m i x) (i + 1) l)
    ∙ ap₂ pen
    (pasted_is (i + 1) t (set m i x) l ∙ rw (e, d) (append_assoc (take i m) (x ∷ []) (t ++ drop (i + length (x ∷ t)) m)) ∙ sym (pasted_is i (x ∷ t) m h)) n

-- so a text that was written from the start of a page is what is then read there
pub rendered : {a : ℕ} {t m m' : List ℕ} {n : ℕ} → a ≤ length m → Wrote a t (pen m 0) (pen m' n) → Rendered t m m' n
rendered {a} {t} {m} {m'} {n} h e =
    let l : 0 + length t ≤ length m = omega (arith, e.short) in
    let f : pen m' n ≡ pen (pasted 0 t m) (0 + length t) = e.made ∙ written_fits t m 0 l in
    let b : n ≡ length t = ap (λ (p : Pen). p.at) f ∙ zero-add (length t) in
    let k : m' ≡ t ++ drop n m = ap (λ (p : Pen). p.page) f ∙ pasted_is 0 t m l ∙ rw (b, zero-add (length t)) in
    let g : take n m' ≡ t = rw k (take_at t (drop n m) n (sym b)) in
    record {
      text = g;
      rest = ap (drop n) k ∙ drop_at t (drop n m) n (sym b);
      inside = omega (arith, ap length k, length-append t (drop n m));
      long = b ∙ ap length (sym g);
    }

-- the same text by another name
pub rendered_as : {s t m m' : List ℕ} {n : ℕ} → s ≡ t → Rendered s m m' n → Rendered t m m' n
rendered_as e p =
    record {
      text = p.text ∙ e;
      rest = p.rest;
      inside = p.inside;
      long = p.long;
    }

-- and on a page that was empty it is the whole text
pub holds : {a n : ℕ} {t : List ℕ} {p q : Pen} → a ≤ n → p ≡ pen (zeros n) 0 → Wrote a t p q → Holds n t q
holds {n = n} h e f = rendered (omega (arith, h, zeros_length n)) (rw e at f)
