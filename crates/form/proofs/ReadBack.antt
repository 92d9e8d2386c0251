-- THE DRAFT SAYS WHAT THE FORM SAYS: where a form gives a draft, the k-th of its lines that are not passed over is field k, and the case file's reader finds
-- there the bytes of that line's value. So the order of the lines is the order of the fields, and none is left out or read twice.
-- Assumes nothing.
use Prim.Native.Nat.{ℕ, zero, suc, ◌+◌, ◌≤◌, ◌<◌}
use mathlib.Core.Path.{◌≡◌, refl, sym, ap, ap₂, ◌∙◌}
use mathlib.Core.Bool.{Bool, true, false, cond, not, ◌||◌, false≢true}
use mathlib.Core.List.{List, [], ◌∷◌, ◌++◌, append_assoc, append-nil}
use mathlib.Core.Logic.{◌⊎◌, ⊎_elim}
use native.Mathlib.Decide.{dec_le}
use native.Mathlib.Nat.{lt_of_not-le, add-zero, eq-or-lt_of_le, le_of_suc-le-suc}
use native.Mathlib.Numerals.{add-one}
use native.Mathlib.Omega.{arith}
use Rattle.std.specs.Prelude.{Ok, Err}
use lib.Dec.{eqb, ltb}
use lib.ListN.{length, get_or, drop, length-append}
use lib.Seq.{get_or-drop, drop-drop}
use borrow.Author.Tests.{eqb-true, not-true, ltb-false}
use Rattle.octets.specs.Parts.{zeros, field as part}
use Rattle.octets.proofs.NumberLaws.{little_bytes_length}
use Rattle.octets.proofs.PartLaws.{zeros_length, field_left, field_right, field_all}
use Rattle.casefile.specs.Layout.{description, old_note_lengths, new_note_lengths, lengths, total, case_length, proof_length, part_of}
use Rattle.form.specs.declared.fields.Kind.{Kind}
use Rattle.form.specs.declared.fields.Kind.TheVariants.{Amount, Position, Hex, Proof}
use Rattle.form.specs.declared.FormError.TheVariants.{Wrong, TooLong}
use Rattle.form.specs.Lines.{lines_in, value_of}
use Rattle.form.specs.Digits.{number_from}
use Rattle.form.specs.Fields.{accepts, bytes_of, size_of, fields, field_at, is_field, field_bytes}
use Rattle.form.specs.Forms.{Reading, reading, is_passed_over, read_from, reading_of}
use Rattle.form.proofs.FieldLaws.{all_below, at, reach, span, next_reach, in_table, accepted}
use Rattle.form.proofs.DraftLaws.{no_draft, either, hex_size, proof_size}
use Rattle.form.proofs.ReadLaws.{whole, too_long, not_too_long}
use Rattle.form.proofs.Places.{place, lie, ends}

-- the lines that are not passed over, and the line of field k
unfoldable pub counted : List (List ℕ) → List (List ℕ)
counted [] = []
counted (l ∷ ls) = cond (is_passed_over l) (counted ls) (l ∷ counted ls)

unfoldable pub line_of : List ℕ → ℕ → List ℕ
line_of s k = get_or (counted (lines_in s)) k []

-- the bytes of the first k fields, where a has their lines
joined : List (List ℕ) → ℕ → List ℕ
joined a zero = []
joined a (suc k) = joined a k ++ field_bytes k (value_of (get_or a k []))

counted_not : (l : List ℕ) (ls : List (List ℕ)) → is_passed_over l ≡ true → counted (l ∷ ls) ≡ counted ls
unfolding counted
counted_not l ls h = rw h

counted_too : (l : List ℕ) (ls : List (List ℕ)) → is_passed_over l ≡ false → counted (l ∷ ls) ≡ l ∷ counted ls
unfolding counted
counted_too l ls h = rw h

next_line : (a : List (List ℕ)) (k : ℕ) (l : List ℕ) (r : List (List ℕ)) → l ∷ r ≡ drop k a → (get_or a k [] ≡ l) × (r ≡ drop (k + 1) a)
next_line a k l r e = (
  sym (ap (λ (x : List (List ℕ)). get_or x 0 []) e ∙ get_or-drop k a 0 [] ∙ ap (λ (i : ℕ). get_or a i []) (add-zero k)),
  ap (drop 1) e ∙ drop-drop 1 k a,
)

-- from field k on
record AllRead (a : List (List ℕ)) (k : ℕ) (r : Reading) : Type 0 where
  bytes : r.bytes ≡ joined a 28
  each : (j : ℕ) → k ≤ j → j < 28 → is_field j (get_or a j []) ≡ true

at_end : (a : List (List ℕ)) (n k : ℕ) (d : List ℕ) → k ≤ 28 → d ≡ joined a k → (b : Bool) → ltb k 28 ≡ b
    → (reading (cond b (Err (Wrong n k)) (Ok tt)) d).formed ≡ Ok tt → AllRead a k (reading (cond b (Err (Wrong n k)) (Ok tt)) d)
at_end a n k d h e true t w = no_draft (Wrong n k) (sym w)
at_end a n k d h e false t w =
    let q = ltb-false k 28 t in
    let i : k ≡ 28 = omega arith in
    record { bytes = e ∙ ap (joined a) i; each = λ j u v. absurd (omega arith) }

all_read : (a : List (List ℕ)) (n k : ℕ) (d : List ℕ) (ls : List (List ℕ)) → k ≤ 28 → d ≡ joined a k → counted ls ≡ drop k a
    → (read_from n k d ls).formed ≡ Ok tt → AllRead a k (read_from n k d ls)
unfolding read_from joined
all_read a n k d [] h e c q = at_end a n k d h e (ltb k 28) refl q
all_read a n k d (l ∷ ls) h e c q = go (is_passed_over l) refl (is_field k l) refl (λ x. all_read a (n + 1) k d ls h e x) (λ b y x. all_read a (n + 1) (k + 1) (d ++ field_bytes k (value_of l)) ls b y x) c q
  where
    go : (s : Bool) → is_passed_over l ≡ s → (t : Bool) → is_field k l ≡ t
        → (counted ls ≡ drop k a → (read_from (n + 1) k d ls).formed ≡ Ok tt → AllRead a k (read_from (n + 1) k d ls))
        → (k + 1 ≤ 28 → d ++ field_bytes k (value_of l) ≡ joined a (k + 1) → counted ls ≡ drop (k + 1) a
        → (read_from (n + 1) (k + 1) (d ++ field_bytes k (value_of l)) ls).formed ≡ Ok tt → AllRead a (k + 1) (read_from (n + 1) (k + 1) (d ++ field_bytes k (value_of l)) ls))
        → counted (l ∷ ls) ≡ drop k a
        → (cond s (read_from (n + 1) k d ls) (cond t (read_from (n + 1) (k + 1) (d ++ field_bytes k (value_of l)) ls) (reading (Err (Wrong n k)) d))).formed ≡ Ok tt
        → AllRead a k (cond s (read_from (n + 1) k d ls) (cond t (read_from (n + 1) (k + 1) (d ++ field_bytes k (value_of l)) ls) (reading (Err (Wrong n k)) d)))
    go true p t f x y u w = x (sym (counted_not l ls p) ∙ u) w
    go false p true f x y u w =
        let v = next_line a k l (counted ls) (sym (counted_too l ls p) ∙ u) in
        let i = in_table k l f in
        let g : d ++ field_bytes k (value_of l) ≡ joined a (k + 1) = rw add-one (ap₂ (λ (b x : List ℕ). b ++ field_bytes k (value_of x)) e (sym v.0)) in
        let r = y (omega arith) g v.1 w in
        record {
          bytes = r.bytes;
          each =
              λ j lo hi.
              ⊎_elim (λ c. ap (λ (i : ℕ). is_field i (get_or a i [])) (sym c) ∙ ap (is_field k) v.0 ∙ f) (λ c. r.each j (omega arith) hi) (eq-or-lt_of_le lo);
        }
    go false p false f x y u w = no_draft (Wrong n k) (sym w)

-- how many bytes a value has that is no proof, whatever the edition
is_proof : Kind → Bool
is_proof Amount = false
is_proof Position = false
is_proof (Hex n) = false
is_proof Proof = true

plain_size : (p : ℕ) (t : Kind) (s : List ℕ) → is_proof t ≡ false → accepts t s ≡ true → length (bytes_of t s) ≡ size_of p t
unfolding is_proof accepts bytes_of size_of
plain_size p Amount s h e = little_bytes_length 8 (number_from 0 s)
plain_size p Position s h e = little_bytes_length 4 (number_from 0 s)
plain_size p (Hex n) s h e = hex_size n s e
plain_size p Proof s h e = absurd (false≢true (sym h))

one_proof : all_below (λ k. eqb k 5 || not (is_proof (field_at k).kind)) 28 ≡ true
unfolding all_below is_proof field_at fields
one_proof = refl

-- the lines of all fields: the edition is told by the proof among them
module _ (a : List (List ℕ)) (each : (j : ℕ) → j < 28 → is_field j (get_or a j []) ≡ true) where
  value : ℕ → List ℕ
  value k = bytes_of (field_at k).kind (value_of (get_or a k []))

  size : ℕ
  size = length (value 5)

  edition : (size ≡ 296) ⊎ (size ≡ 192)
  unfolding size value bytes_of field_at fields
  edition = proof_size (value_of (get_or a 5 [])) (accepted 5 (get_or a 5 []) (each 5 (omega arith)))

  the_proof : length (value 5) ≡ size_of size (field_at 5).kind
  unfolding size size_of field_at fields
  the_proof = refl

  plain : (k : ℕ) → k < 28 → is_proof (field_at k).kind ≡ false → length (value k) ≡ size_of size (field_at k).kind
  unfolding value
  plain k h q = plain_size size (field_at k).kind (value_of (get_or a k [])) q (accepted k (get_or a k []) (each k h))

  sized : (k : ℕ) → k < 28 → length (value k) ≡ size_of size (field_at k).kind
  sized k h = ⊎_elim (λ q. rw (eqb-true k 5 q) the_proof) (λ q. plain k h (not-true _ q)) (either _ _ (at _ 28 one_proof k h))

  reaches : (k : ℕ) → k ≤ 28 → length (joined a k) ≡ reach size k
  unfolding joined field_bytes value reach span
  reaches zero h = refl
  reaches (suc k) h =
      let z = zeros (field_at k).gap in
      let n : reach size (suc k) ≡ reach size k + ((field_at k).gap + size_of size (field_at k).kind) = rw add-one at (next_reach size k h) in
      omega (arith, n, length-append (joined a k) (z ++ value k), length-append z (value k), zeros_length (field_at k).gap, sized k h, reaches k (omega arith))

  -- the first k fields stand at the start
  record Starts (k m : ℕ) : Type 0 where
    rest : List ℕ
    made : joined a m ≡ joined a k ++ rest

  same_place : (k m : ℕ) → k ≡ m → Starts k m
  same_place k m e = record { rest = []; made = ap (joined a) (sym e) ∙ sym (append-nil (joined a k)) }

  starts : (k m : ℕ) → k ≤ m → Starts k m
  unfolding joined
  starts k zero h = same_place k 0 (omega arith)
  starts k (suc m) h =
      ⊎_elim (same_place k (suc m))
      (λ l.
      let r = starts k m (le_of_suc-le-suc l) in
      let f = field_bytes m (value_of (get_or a m [])) in
      record { rest = r.rest ++ f; made = ap (λ (x : List ℕ). x ++ f) r.made ∙ append_assoc (joined a k) r.rest f })
      (eq-or-lt_of_le h)

  -- the proof's length, as the case file's reader takes it from the file's length
  told : proof_length (joined a 28) ≡ size
  unfolding proof_length case_length lengths description old_note_lengths new_note_lengths total
  told =
      let e : length (joined a 28) ≡ case_length size = reaches 28 (omega arith) ∙ ends size edition in
      ⊎_elim (λ q. omega (arith, q, e ∙ ap case_length q)) (λ q. omega (arith, q, e ∙ ap case_length q)) edition

  found : (k : ℕ) → k < 28 → part_of (place k) (joined a 28) ≡ value k
  unfolding part_of joined field_bytes value
  found k h =
      let l = lie size k edition h in
      let z = zeros (field_at k).gap in
      let s = starts (suc k) 28 h in
      let i = reach size k + (field_at k).gap in
      let n = size_of size (field_at k).kind in
      let e : length (joined a (suc k)) ≡ i + n = omega (arith, reaches (suc k) h, rw add-one at (next_reach size k h)) in
      rw (told, sym l.start, sym l.size, s.made)
      (field_left i n (joined a (suc k)) s.rest (omega arith)
      ∙ field_right i (field_at k).gap n (joined a k) (z ++ value k) (omega (arith, reaches k (omega arith)))
      ∙ field_right (field_at k).gap 0 n z (value k) (omega (arith, zeros_length (field_at k).gap))
      ∙ ap (λ (m : ℕ). part 0 m (value k)) (sym (sized k h)) ∙ field_all (value k))

-- THE THEOREM, by lines and by fields
pub record Said (s : List ℕ) : Type 0 where
  pub lines : (k : ℕ) → k < 28 → is_field k (line_of s k) ≡ true
  pub draft : (k : ℕ) → k < 28 → part_of (place k) (reading_of s).bytes ≡ bytes_of (field_at k).kind (value_of (line_of s k))

said_by : (s : List ℕ) (r : Reading) → AllRead (counted (lines_in s)) 0 r → r ≡ reading_of s → Said s
unfolding line_of value
said_by s r w e =
    let a = counted (lines_in s) in
    let f : (j : ℕ) → j < 28 → is_field j (get_or a j []) ≡ true = λ j h. w.each j (omega arith) h in
    record { lines = f; draft = λ k h. ap (part_of (place k)) (ap (λ (x : Reading). x.bytes) (sym e) ∙ w.bytes) ∙ found a f k h }

pub said : (s : List ℕ) → (reading_of s).formed ≡ Ok tt → Said s
unfolding joined
said s q = go (dec_le (length s) 65536)
  where
    go : Dec (length s ≤ 65536) → Said s
    go (yes h) =
        let e = not_too_long s h in
        said_by s (whole s) (all_read (counted (lines_in s)) 1 0 [] (lines_in s) (omega arith) refl refl (ap (λ (r : Reading). r.formed) (sym e) ∙ q)) (sym e)
    go (no h) = no_draft TooLong (sym q ∙ ap (λ (r : Reading). r.formed) (too_long s (lt_of_not-le h)))
