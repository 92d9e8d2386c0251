-- A form that is read gives a draft of one of the two editions: 4,210 bytes, or 4,106.
-- Assumes nothing.
use Prim.Native.Nat.{ℕ, ◌+◌, ◌/◌, ◌≤◌}
use mathlib.Core.Path.{◌≡◌, refl, sym, ap, ◌∙◌}
use mathlib.Core.Bool.{Bool, true, false, cond, ◌||◌}
use mathlib.Core.List.{List, [], ◌∷◌, ◌++◌}
use mathlib.Core.Logic.{◌⊎◌, inl, inr, ⊎_elim}
use native.Mathlib.Decide.{dec_le}
use native.Mathlib.Nat.{lt_of_not-le, zero-add}
use native.Mathlib.Omega.{arith}
use lib.Dec.{eqb, ltb}
use lib.ListN.{length, take, length-append}
use Rattle.std.specs.Prelude.{Result, Ok, Err}
use borrow.Author.Tests.{eqb-true, ltb-false}
use Rattle.octets.specs.Parts.{zeros}
use Rattle.octets.proofs.NumberLaws.{little_bytes_length}
use Rattle.octets.proofs.PartLaws.{zeros_length}
use Rattle.text.specs.Pen.{Pen, pen, Wrote}
use Rattle.text.proofs.PenLaws.{written_fits, rendered}
use Rattle.casefile.specs.Layout.{description, old_note_lengths, new_note_lengths, lengths, total, case_length}
use Rattle.casefile.specs.Fields.{has_length}
use Rattle.form.specs.declared.fields.Kind.{Kind}
use Rattle.form.specs.declared.fields.Kind.TheVariants.{Amount, Position, Hex, Proof}
use Rattle.form.specs.declared.FormError.{FormError}
use Rattle.form.specs.declared.FormError.TheVariants.{Wrong, TooLong}
use Rattle.form.specs.Lines.{lines_in, value_of}
use Rattle.form.specs.Digits.{number_from, is_hex, bytes_in}
use Rattle.form.specs.Fields.{accepts, bytes_of, size_of, fields, field_at, is_field, field_bytes}
use Rattle.form.specs.Forms.{Reading, reading, is_passed_over, read_from, reading_of, draft_after}
use Rattle.form.proofs.DigitLaws.{bytes_in_length}
use Rattle.form.proofs.FieldLaws.{all_below, at, reach, span, next_reach, hex_of, in_table, accepted}
use Rattle.form.proofs.ReadLaws.{too_long, not_too_long}

-- so many bytes as in the first edition, or in the second
Either : (ℕ → ℕ) → ℕ → Type 0
Either f n = (n ≡ f 296) ⊎ (n ≡ f 192)

pub either : (a b : Bool) → (a || b) ≡ true → (a ≡ true) ⊎ (b ≡ true)
either true b h = inl refl
either false b h = inr h

pub hex_size : (n : ℕ) (s : List ℕ) → is_hex n s ≡ true → length (bytes_in s) ≡ n / 2
hex_size n s h =
    let e = (hex_of n s h).0 in
    omega (arith, bytes_in_length s)

pub proof_size : (s : List ℕ) → accepts Proof s ≡ true → (length (bytes_in s) ≡ 296) ⊎ (length (bytes_in s) ≡ 192)
unfolding accepts
proof_size s h = ⊎_elim (λ e. inl (hex_size 592 s e)) (λ e. inr (hex_size 384 s e)) (either _ _ h)

value_size : (t : Kind) (s : List ℕ) → accepts t s ≡ true → Either (λ p. size_of p t) (length (bytes_of t s))
unfolding Either accepts bytes_of size_of
value_size Amount s h = inl (little_bytes_length 8 (number_from 0 s))
value_size Position s h = inl (little_bytes_length 4 (number_from 0 s))
value_size (Hex n) s h = inl (hex_size n s h)
value_size Proof s h = proof_size s h

-- before the proof both editions reach as far, and every other value has as many bytes in both
alike : all_below (λ k. eqb (reach 296 k) (reach 192 k) || eqb (size_of 296 (field_at k).kind) (size_of 192 (field_at k).kind)) 28 ≡ true
unfolding all_below reach span field_at fields size_of
alike = refl

sum : {n b r r' q q' : ℕ} → (n ≡ r) ⊎ (n ≡ r') → (b ≡ q) ⊎ (b ≡ q') → (r ≡ r') ⊎ (q ≡ q') → (n + b ≡ r + q) ⊎ (n + b ≡ r' + q')
sum (inl u) (inl v) w = inl (omega arith)
sum (inr u) (inr v) w = inr (omega arith)
sum (inl u) (inr v) (inl w) = inr (omega arith)
sum (inl u) (inr v) (inr w) = inl (omega arith)
sum (inr u) (inl v) (inl w) = inl (omega arith)
sum (inr u) (inl v) (inr w) = inr (omega arith)

-- one field more
grows : (k : ℕ) (l d : List ℕ) → is_field k l ≡ true → Either (λ p. reach p k) (length d) → Either (λ p. reach p (k + 1)) (length (d ++ field_bytes k (value_of l)))
unfolding Either field_bytes
grows k l d f h =
    let t = (field_at k).kind in
    let z = zeros (field_at k).gap in
    let b = bytes_of t (value_of l) in
    let i = in_table k l f in
    let n : length (d ++ (z ++ b)) ≡ (field_at k).gap + (length d + length b) = omega (arith, length-append d (z ++ b), length-append z b, zeros_length (field_at k).gap) in
    let w : (reach 296 k ≡ reach 192 k) ⊎ (size_of 296 t ≡ size_of 192 t) =
    ⊎_elim (λ q. inl (eqb-true (reach 296 k) (reach 192 k) q)) (λ q. inr (eqb-true (size_of 296 t) (size_of 192 t) q)) (either _ _ (at _ 28 alike k i)) in
    ⊎_elim (λ u. inl (omega (arith, n, u, next_reach 296 k i))) (λ u. inr (omega (arith, n, u, next_reach 192 k i)))
    (sum h (value_size t (value_of l) (accepted k l f)) w)

-- what a reading says where it gives a draft
abbrev pub Drafted : Reading → Type 0
Drafted r = (length r.bytes ≡ 4210) ⊎ (length r.bytes ≡ 4106)

-- a fault is no draft
pub no_draft : {A : Type 0} (e : FormError) → ◌≡◌ {A = Result (Unit {0}) FormError} (Ok tt) (Err e) → A
no_draft e p = let z : ◌≡◌ {A = ℕ} 0 1 = cc in absurd (omega arith)

-- at the end: all fields were read
at_end : (k : ℕ) (d : List ℕ) → k ≤ 28 → Either (λ p. reach p k) (length d) → (n : ℕ) (r : Reading)
    → r ≡ reading (cond (ltb k 28) (Err (Wrong n k)) (Ok tt)) d → r.formed ≡ Ok tt → Drafted r
unfolding Either reach span fields size_of
at_end k d h e n r p q = go (ltb k 28) refl
  where
    go : (b : Bool) → ltb k 28 ≡ b → Drafted r
    go true t = no_draft (Wrong n k) (sym q ∙ ap (λ (x : Reading). x.formed) p ∙ rw t)
    go false t =
        let j : k ≡ 28 = omega (arith, ltb-false k 28 t) in
        let l : length r.bytes ≡ length d = ap (λ (x : Reading). length x.bytes) p in
        ⊎_elim (λ u. inl (l ∙ u ∙ ap (reach 296) j)) (λ u. inr (l ∙ u ∙ ap (reach 192) j)) e

sized : (n k : ℕ) (d : List ℕ) (ls : List (List ℕ)) → k ≤ 28 → Either (λ p. reach p k) (length d) → (read_from n k d ls).formed ≡ Ok tt → Drafted (read_from n k d ls)
unfolding read_from
sized n k d [] h e q = at_end k d h e n _ refl q
sized n k d (l ∷ ls) h e q = go (is_passed_over l) refl (is_field k l) refl (sized (n + 1) k d ls h e) (λ f. sized (n + 1) (k + 1) (d ++ field_bytes k (value_of l)) ls (omega (arith, in_table k l f)) (grows k l d f e)) q
  where
    go : (a : Bool) → is_passed_over l ≡ a → (b : Bool) → is_field k l ≡ b
        → ((read_from (n + 1) k d ls).formed ≡ Ok tt → Drafted (read_from (n + 1) k d ls))
        → (is_field k l ≡ true → (read_from (n + 1) (k + 1) (d ++ field_bytes k (value_of l)) ls).formed ≡ Ok tt → Drafted (read_from (n + 1) (k + 1) (d ++ field_bytes k (value_of l)) ls))
        → (cond a (read_from (n + 1) k d ls) (cond b (read_from (n + 1) (k + 1) (d ++ field_bytes k (value_of l)) ls) (reading (Err (Wrong n k)) d))).formed ≡ Ok tt
        → Drafted (cond a (read_from (n + 1) k d ls) (cond b (read_from (n + 1) (k + 1) (d ++ field_bytes k (value_of l)) ls) (reading (Err (Wrong n k)) d)))
    go true s b t x y w = x w
    go false s true t x y w = y t w
    go false s false t x y w = no_draft (Wrong n k) (sym w)

-- THE THEOREM
pub drafted : (s : List ℕ) → (reading_of s).formed ≡ Ok tt → Drafted (reading_of s)
unfolding Either reach span
drafted s q = go (dec_le (length s) 65536)
  where
    go : Dec (length s ≤ 65536) → Drafted (reading_of s)
    go (yes h) =
        let e = not_too_long s h in
        rw e (sized 1 0 [] (lines_in s) (omega arith) (inl refl) (ap (λ (r : Reading). r.formed) (sym e) ∙ q))
    go (no h) = no_draft TooLong (sym q ∙ ap (λ (r : Reading). r.formed) (too_long s (lt_of_not-le h)))

-- the lent page, of 4,210 bytes, then begins with the draft, where nothing stood on it
pub record Begins (t : List ℕ) (q : Pen) : Type 0 where
  pub text : take q.at q.page ≡ t
  pub short : length t ≤ 4210

pub begins : (s b : List ℕ) (q : Pen) → length b ≡ 4210 → Wrote 4210 (reading_of s).bytes (pen b 0) q → Begins (reading_of s).bytes q
begins s b q h w =
    let r = rendered (omega arith) w in
    record { text = r.text; short = w.short }

-- and is all that the page then has
pub draft_lem : (s b : List ℕ) (q : Pen) → length b ≡ 4210 → Wrote 4210 (reading_of s).bytes (pen b 0) q → q ≡ pen (draft_after s b) (length (reading_of s).bytes)
unfolding draft_after
draft_lem s b q h w = w.made ∙ written_fits _ b 0 (omega (arith, w.short)) ∙ ap (pen _) (zero-add _)

-- so the draft has a case's length
pub has_length_lem : (s : List ℕ) → (reading_of s).formed ≡ Ok tt → has_length (reading_of s).bytes ≡ true
unfolding has_length case_length lengths description old_note_lengths new_note_lengths total
has_length_lem s q = ⊎_elim (λ e. rw e) (λ e. rw e) (drafted s q)
