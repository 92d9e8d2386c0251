-- Where readers and writers find a field: those of a pair, said for both at once, and those behind the proof, said over its length.
-- Assumes nothing.
use Prim.Native.Nat.{ℕ, ◌+◌, ◌≤◌, min}
use native.Mathlib.Decide.{dec_le}
use mathlib.Core.Path.{◌≡◌, refl, sym, ap, ◌∙◌}
use mathlib.Core.Bool.{Bool, true}
use mathlib.Core.List.{List}
use native.Mathlib.Omega.{arith}
use borrow.Author.Tests.{leb-true}
use lib.Dec.{leb}
use lib.ListN.{length, get_or, take, drop}
use lib.Seq.{take_all}
use Rattle.octets.specs.Parts.{field, fits_in, pasted}
use Rattle.units.specs.declared.Which.{Which}
use Rattle.units.specs.declared.Which.TheVariants.{First, Second}
use Rattle.units.specs.Pairs.{number_of, of_pair}
use Rattle.casefile.specs.Layout.{description, old_note_lengths, new_note_lengths, lengths, total, offset, proof_length, part_of, present_of, ciphertext, of_old}
use Rattle.casefile.specs.Writing.{has_place, put_part}
use Rattle.casefile.proofs.LayoutLaws.{moved, as_long}

-- what is so at start for the first of a pair, and step bytes further on for the second, is so where the one lies that is asked for
pub pair_at : {A : Type 0} (f g : ℕ → A) (start step : ℕ) → f start ≡ g 1 → f (start + step) ≡ g 2
    → (i : Which) (at : ℕ) → at ≡ of_pair i start (start + step) → f at ≡ g (number_of i)
pair_at f g start step one two First at e = ap f e ∙ one
pair_at f g start step one two Second at e = ap f e ∙ two

-- a field that a reader finds there
pub paired : (read : ℕ → List ℕ) (start step n : ℕ) (c : List ℕ) → field start n c ≡ read 1 → field (start + step) n c ≡ read 2
    → (i : Which) (at : ℕ) → at ≡ of_pair i start (start + step) → field at n c ≡ read (number_of i)
paired read start step n c = pair_at (λ k. field k n c) read start step

-- bytes that are written where field k starts
put_at : (k : ℕ) (b c : List ℕ) (at : ℕ) → at ≡ offset (proof_length c) k → (ok : Bool) (d : List ℕ) → (ok ≡ fits_in at b c) × (d ≡ pasted at b c)
    → (ok ≡ has_place k b c) × (d ≡ put_part k b c)
unfolding has_place put_part
put_at k b c at o ok d h = (h.0 ∙ ap (λ (j : ℕ). fits_in j b c) o, h.1 ∙ ap (λ (j : ℕ). pasted j b c) o)

-- where k numbers the fields of a pair
pub put_pair : (k : ℕ → ℕ) (start step : ℕ) (b c : List ℕ) → start ≡ offset (proof_length c) (k 1) → start + step ≡ offset (proof_length c) (k 2)
    → (i : Which) (at : ℕ) → at ≡ of_pair i start (start + step) → (ok : Bool) (d : List ℕ) → (ok ≡ fits_in at b c) × (d ≡ pasted at b c)
    → (ok ≡ has_place (k (number_of i)) b c) × (d ≡ put_part (k (number_of i)) b c)
put_pair k start step b c one two i at e = put_at (k (number_of i)) b c at (pair_at (λ j. j) (λ j. offset (proof_length c) (k j)) start step one two i at e)

-- BEHIND THE PROOF. Field k lies there, has n bytes, and would start at start if the proof had none
abbrev pub Behind : ℕ → ℕ → ℕ → Type 0
Behind k start n = (leb (ciphertext 1) k ≡ true) × (offset 0 k ≡ start) × (get_or (lengths 0) k 0 ≡ n)

-- so it starts behind the proof's bytes and those, and is as long as that in either edition
starts_at : (k start n p : ℕ) → Behind k start n → p + start ≡ offset p k
starts_at k start n p f = ap (λ (j : ℕ). p + j) (sym f.1) ∙ sym (moved p k (leb-true (ciphertext 1) k f.0))

has_bytes : (k start n p : ℕ) → Behind k start n → get_or (lengths p) k 0 ≡ n
has_bytes k start n p f = as_long p 0 k (λ e. absurd (omega (arith, leb-true (ciphertext 1) k f.0))) ∙ f.2

-- of a pair, the one that is asked for
pub behind_pair : (k : ℕ → ℕ) (start step n : ℕ) → Behind (k 1) start n → Behind (k 2) (start + step) n → (i : Which) → Behind (k (number_of i)) (of_pair i start (start + step)) n
behind_pair k start step n one two First = one
behind_pair k start step n one two Second = two

-- what is read there, byte by byte and as a part of the file
pub read_behind : (k start n : ℕ) (c : List ℕ) → Behind k start n → (at : ℕ) → at ≡ proof_length c + start → field at n c ≡ part_of k c
unfolding part_of
read_behind k start n c f at e = rw (has_bytes k start n (proof_length c) f, e ∙ starts_at k start n (proof_length c) f)

pub present_behind : (k start n : ℕ) (c : List ℕ) → Behind k start n → (at : ℕ) → at ≡ proof_length c + start → take n (drop at c) ≡ present_of k c
unfolding present_of
present_behind k start n c f at e = rw (has_bytes k start n (proof_length c) f, e ∙ starts_at k start n (proof_length c) f)

-- and what is written there
pub put_behind : (k start n : ℕ) (b c : List ℕ) → Behind k start n → (at : ℕ) → at ≡ proof_length c + start → (ok : Bool) (d : List ℕ)
    → (ok ≡ fits_in at b c) × (d ≡ pasted at b c)
    → (ok ≡ has_place k b c) × (d ≡ put_part k b c)
put_behind k start n b c f at e = put_at k b c at (e ∙ starts_at k start n (proof_length c) f)

-- as much of a list as there is of n elements
pub take_up_to : (n : ℕ) (s : List ℕ) → take (min (length s) n) s ≡ take n s
take_up_to n s = go (dec_le n (length s))
  where
    go : Dec (n ≤ length s) → take (min (length s) n) s ≡ take n s
    go (yes h) =
        let e : min (length s) n ≡ n = omega arith in
        ap (λ (k : ℕ). take k s) e
    go (no h) = take_all (min (length s) n) s (omega arith) ∙ sym (take_all n s (omega arith))

-- the path of an old note
pub path_part : (c : List ℕ) (i : Which) (at : ℕ) → at ≡ proof_length c + of_pair i 1678 (1678 + 1068) → take 928 (drop at c) ≡ present_of (of_old (number_of i) 6) c
unfolding description old_note_lengths new_note_lengths lengths total offset
path_part c i = present_behind _ _ 928 c (behind_pair (λ j. of_old j 6) 1678 1068 928 (refl, refl, refl) (refl, refl, refl) i)
