-- The table of fields, entry by entry, by tests that antt computes over all of it; and what the kinds of values are.
-- Assumes nothing.
use Prim.Native.Nat.{ℕ, zero, suc, ◌+◌, ◌-◌, ◌/◌, ◌%◌, ◌≤◌, ◌<◌}
use mathlib.Core.Path.{◌≡◌, refl, ap, ◌∙◌}
use mathlib.Core.Bool.{Bool, true, false, ◌&&◌, ◌||◌}
use mathlib.Core.List.{List, [], ◌∷◌, ◌++◌, map}
use mathlib.Core.Logic.{⊎_elim}
use native.Mathlib.Nat.{eq-or-lt_of_le, le_of_suc-le-suc, sub-zero}
use native.Mathlib.Numerals.{add-one}
use native.Mathlib.Omega.{arith}
use lib.Dec.{eqb, leb, ltb}
use lib.ListN.{length, get_or, take}
use lib.Seq.{take_at}
use borrow.Author.Tests.{leb-true, ltb-true, eqb-true, lt-ltb, le-ltb}
use Rattle.octets.specs.Parts.{same, zeros}
use Rattle.octets.specs.Numbers.{little_bytes}
use Rattle.octets.proofs.BoolLaws.{and_both}
use Rattle.octets.proofs.PartLaws.{same_eq, zeros_length, zeros_append}
use Rattle.text.specs.Words.{ascii}
use Rattle.form.specs.declared.fields.Field.{Field as Entry}
use Rattle.form.specs.declared.fields.Kind.TheVariants.{Hex}
use Rattle.form.specs.Lines.{Blank, is_blank, stops_at, up_to, word_of, value_of}
use Rattle.form.specs.Digits.{every, is_hex_digit, is_hex}
use Rattle.form.specs.Fields.{Field, field, size_of, accepts, fields, field_at, is_field}

-- a test that passes below n passes at each k there
unfoldable pub all_below : (ℕ → Bool) → ℕ → Bool
all_below f zero = true
all_below f (suc n) = f n && all_below f n

pub at : (f : ℕ → Bool) (n : ℕ) → all_below f n ≡ true → (k : ℕ) → k < n → f k ≡ true
unfolding all_below
at f zero e k h = absurd (omega arith)
at f (suc n) e k h =
    let b = and_both (f n) (all_below f n) e in
    ⊎_elim (λ q. ap f q ∙ b.0) (λ l. at f n b.1 k l) (eq-or-lt_of_le (le_of_suc-le-suc h))

-- a field as the code has it, with a name of 16 bytes
unfoldable pub entry_of : Field → Entry
entry_of f = record { 0 = take 16 (f.name ++ ascii "                "); 1 = f.gap; 2 = f.kind }

mapped : {A B : Type 0} (f : A → B) (l : List A) (d : A) (e : B) (k : ℕ) → k < length l → get_or (map f l) k e ≡ f (get_or l k d)
mapped f [] d e k h = absurd (omega arith)
mapped f (x ∷ l) d e zero h = refl
mapped f (x ∷ l) d e (suc k) h = mapped f l d e k (omega arith)

pub entry_at : (e : Entry) (k : ℕ) → k < 28 → get_or (map entry_of fields) k e ≡ entry_of (field_at k)
unfolding field_at fields
entry_at e k h = mapped entry_of fields (field [] 0 (Hex 0)) e k h

named : all_below (λ k. same (up_to Blank (entry_of (field_at k)).0) (field_at k).name) 28 ≡ true
unfolding all_below same up_to stops_at is_blank entry_of field_at fields
named = refl

pub name_at : (k : ℕ) → k < 28 → up_to Blank (entry_of (field_at k)).0 ≡ (field_at k).name
name_at k h = same_eq _ _ (at _ 28 named k h)

-- how far the first k fields reach, in the edition whose proof has p bytes
unfoldable pub span : ℕ → List Field → ℕ
span p [] = 0
span p (f ∷ l) = f.gap + size_of p f.kind + span p l

unfoldable pub reach : ℕ → ℕ → ℕ
reach p k = span p (take k fields)

one_more : (p : ℕ) (l : List Field) (d : Field) (k : ℕ) → k < length l → span p (take (suc k) l) ≡ span p (take k l) + ((get_or l k d).gap + size_of p (get_or l k d).kind)
unfolding span
one_more p [] d k h = absurd (omega arith)
one_more p (f ∷ l) d zero h = omega arith
one_more p (f ∷ l) d (suc k) h = omega (arith, one_more p l d k (omega arith))

pub next_reach : (p k : ℕ) → k < 28 → reach p (k + 1) ≡ reach p k + ((field_at k).gap + size_of p (field_at k).kind)
unfolding reach field_at fields
next_reach p k h = rw add-one (one_more p fields (field [] 0 (Hex 0)) k h)

inside : all_below (λ k. leb (reach 296 k) 4210) 29 ≡ true
unfolding all_below reach span fields size_of
inside = refl

pub reach_inside : (k : ℕ) → k ≤ 28 → reach 296 k ≤ 4210
reach_inside k h = leb-true _ _ (at _ 29 inside k (omega arith))

short : all_below (λ k. leb (field_at k).gap 128) 28 ≡ true
unfolding all_below field_at fields
short = refl

pub gap_short : (k : ℕ) → k < 28 → (field_at k).gap ≤ 128
gap_short k h = leb-true _ _ (at _ 28 short k h)

-- what hexadecimal digits are, and those of a proof
pub hex_of : (n : ℕ) (s : List ℕ) → is_hex n s ≡ true → (length s ≡ n) × (every is_hex_digit s ≡ true)
unfolding is_hex
hex_of n s h =
    let b = and_both (eqb (length s) n) (every is_hex_digit s) h in
    (eqb-true (length s) n b.0, b.1)

pub proof_of : (s : List ℕ) → (is_hex 592 s || is_hex 384 s) ≡ true → (length s ≤ 592) × (every is_hex_digit s ≡ true)
proof_of s h = go (is_hex 592 s) refl h
  where
    go : (b : Bool) → is_hex 592 s ≡ b → (b || is_hex 384 s) ≡ true → (length s ≤ 592) × (every is_hex_digit s ≡ true)
    go true e k =
        let r = hex_of 592 s e in
        (omega arith, r.1)
    go false e k =
        let r = hex_of 384 s k in
        (omega arith, r.1)

-- a number as fewer bytes than eight
take_little : (w k n : ℕ) → take w (little_bytes (w + k) n) ≡ little_bytes w n
unfolding little_bytes
take_little zero k n = refl
take_little (suc w) k n =
    let e : suc w + k ≡ suc (w + k) = omega arith in
    rw e (ap (λ (l : List ℕ). n % 256 ∷ l) (take_little w k (n / 256)))

pub cut_little : (w n : ℕ) → w ≤ 8 → take (w - 0) (little_bytes 8 n) ≡ little_bytes w n
cut_little w n h =
    let e : 8 ≡ w + (8 - w) = omega arith in
    rw sub-zero (ap (λ (k : ℕ). take w (little_bytes k n)) e ∙ take_little w (8 - w) n)

-- fewer zeros than there are
pub cut_zeros : (n m : ℕ) → n ≤ m → take (n - 0) (zeros m) ≡ zeros n
cut_zeros n m h =
    let e : m ≡ n + (m - n) = omega arith in
    rw sub-zero (ap (λ (k : ℕ). take n (zeros k)) e ∙ ap (take n) (zeros_append n (m - n)) ∙ take_at (zeros n) (zeros (m - n)) n (zeros_length n))

-- whether a line is field k
pub no_field : (k : ℕ) (l : List ℕ) → 28 ≤ k → is_field k l ≡ false
unfolding is_field
no_field k l h = rw (le-ltb k 28 h)

pub not_named : (k : ℕ) (l : List ℕ) → k < 28 → same (word_of l) (field_at k).name ≡ false → is_field k l ≡ false
unfolding is_field
not_named k l h e = rw (lt-ltb k 28 h, e)

pub by_value : (k : ℕ) (l : List ℕ) → k < 28 → same (word_of l) (field_at k).name ≡ true → is_field k l ≡ accepts (field_at k).kind (value_of l)
unfolding is_field
by_value k l h e = rw (lt-ltb k 28 h, e)

pub in_table : (k : ℕ) (l : List ℕ) → is_field k l ≡ true → k < 28
unfolding is_field
in_table k l h = ltb-true k 28 (and_both (ltb k 28) _ h).0

pub accepted : (k : ℕ) (l : List ℕ) → is_field k l ≡ true → accepts (field_at k).kind (value_of l) ≡ true
unfolding is_field
accepted k l h = (and_both (same (word_of l) (field_at k).name) _ (and_both (ltb k 28) _ h).1).1
