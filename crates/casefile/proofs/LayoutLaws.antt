-- The layout: the fields lie one after the other and fill the file; those behind the proof move with its length, and no others; and the places are those of
-- document 01.
-- Assumes nothing.
use Prim.Native.Nat.{ℕ, zero, suc, ◌+◌, ◌≤◌, ◌<◌}
use mathlib.Core.Path.{◌≡◌, refl, sym, ap, ◌∙◌}
use mathlib.Core.List.{List, [], ◌∷◌, ◌++◌, map}
use native.Mathlib.Nat.{zero-add, add_assoc}
use native.Mathlib.Omega.{arith}
use lib.ListN.{length, get_or, take, drop, drop_of_length-le, take-append-drop}
use lib.Seq.{drop-drop, take-append-le}
use Rattle.octets.specs.Parts.{field}
use Rattle.octets.specs.Rows.{flat}
use Rattle.octets.proofs.PartLaws.{field_part, field_present}
use Rattle.casefile.specs.Layout.{description, old_note_lengths, new_note_lengths, lengths, total, offset, case_length, proof_length, part_of, present_of, parts_from, vpub_old, vpub_new, anchor, nullifier, commitment, ephemeral_key, seed, tag, proof, ciphertext, transaction_key, of_old, of_new, phi}

fills_from : (ns : List ℕ) (at : ℕ) (c : List ℕ) → at + total ns ≡ length c → flat (parts_from at ns c) ≡ drop at c
unfolding total flat parts_from
fills_from [] at c h = let l : length c ≤ at = omega arith in sym (drop_of_length-le c l)
fills_from (n ∷ ns) at c h =
    rw (field_part at n c (omega arith), fills_from ns (at + n) c (omega arith), sym (drop-drop n at c)) (take-append-drop n (drop at c))

-- a file of the right length is its fields, one after the other
pub parts_fill : (p : ℕ) (c : List ℕ) → length c ≡ case_length p → flat (parts_from 0 (lengths p) c) ≡ c
unfolding case_length
parts_fill p c h = fills_from (lengths p) 0 c (zero-add (total (lengths p)) ∙ sym h)

part_from : (ns : List ℕ) (at k : ℕ) (c : List ℕ) → k < length ns → get_or (parts_from at ns c) k [] ≡ field (at + total (take k ns)) (get_or ns k 0) c
unfolding total parts_from
part_from [] at k c h = absurd (omega arith)
part_from (n ∷ ns) at zero c h = ap (λ (j : ℕ). field j n c) (omega arith)
part_from (n ∷ ns) at (suc k) c h = part_from ns (at + n) k c (omega arith) ∙ ap (λ (j : ℕ). field j (get_or ns k 0) c) (add_assoc at n (total (take k ns)))

many : (p : ℕ) → length (lengths p) ≡ 38
unfolding lengths description old_note_lengths new_note_lengths
many p = refl

-- and field k is the k-th of them
pub part_at : (k : ℕ) (c : List ℕ) → k < 38 → get_or (parts_from 0 (lengths (proof_length c)) c) k [] ≡ part_of k c
unfolding part_of offset
part_at k c h =
    part_from (lengths (proof_length c)) 0 k c (rw (many (proof_length c)) h)
    ∙ ap (λ (j : ℕ). field j (get_or (lengths (proof_length c)) k 0) c) (zero-add (total (take k (lengths (proof_length c)))))

-- a part ends where a later one starts, at most, and within the whole
pub ends_before : (ns : List ℕ) (j k : ℕ) → j < k → total (take j ns) + get_or ns j 0 ≤ total (take k ns)
unfolding total
ends_before ns j zero h = absurd (omega arith)
ends_before [] zero (suc k) h = omega arith
ends_before [] (suc j) (suc k) h = omega arith
ends_before (n ∷ ns) zero (suc k) h = omega arith
ends_before (n ∷ ns) (suc j) (suc k) h = omega (arith, ends_before ns j k (omega arith))

pub ends_within : (ns : List ℕ) (j : ℕ) → total (take j ns) + get_or ns j 0 ≤ total ns
unfolding total
ends_within [] zero = omega arith
ends_within [] (suc j) = omega arith
ends_within (n ∷ ns) zero = omega arith
ends_within (n ∷ ns) (suc j) = omega (arith, ends_within ns j)

-- MOVED BY THE PROOF. In a list with one number exchanged, what stands behind it starts so much later, and all else is the same
exchanged_behind : (before behind : List ℕ) (p k : ℕ) → length before < k → total (take k (before ++ (p ∷ behind))) ≡ p + total (take k (before ++ (0 ∷ behind)))
unfolding total
exchanged_behind before behind p zero h = absurd (omega arith)
exchanged_behind [] behind p (suc k) h = omega arith
exchanged_behind (n ∷ ns) behind p (suc k) h = omega (arith, exchanged_behind ns behind p k (omega arith))

exchanged_before : (before behind : List ℕ) (p k : ℕ) → k ≤ length before → total (take k (before ++ (p ∷ behind))) ≡ total (take k (before ++ (0 ∷ behind)))
exchanged_before before behind p k h = ap total (take-append-le k before (p ∷ behind) h ∙ sym (take-append-le k before (0 ∷ behind) h))

exchanged_length : (before behind : List ℕ) (p q k : ℕ) → (k ≡ length before → ⊥) → get_or (before ++ (p ∷ behind)) k 0 ≡ get_or (before ++ (q ∷ behind)) k 0
exchanged_length [] behind p q zero n = absurd (n refl)
exchanged_length [] behind p q (suc k) n = refl
exchanged_length (x ∷ xs) behind p q zero n = refl
exchanged_length (x ∷ xs) behind p q (suc k) n = exchanged_length xs behind p q k (λ e. n (ap suc e))

-- the lengths before the proof and behind it
abbrev before : List ℕ
before = take proof (lengths 0)

abbrev behind : List ℕ
behind = drop (ciphertext 1) (lengths 0)

-- a field behind the proof starts as many bytes further on as the proof has, one before it at the same place
pub moved : (p k : ℕ) → proof < k → offset p k ≡ p + offset 0 k
unfolding offset lengths description old_note_lengths new_note_lengths
moved p k h = exchanged_behind before behind p k h

pub unmoved : (p k : ℕ) → k ≤ proof → offset p k ≡ offset 0 k
unfolding offset lengths description old_note_lengths new_note_lengths
unmoved p k h = exchanged_before before behind p k h

-- every field but the proof is as long in either edition
pub as_long : (p q k : ℕ) → (k ≡ proof → ⊥) → get_or (lengths p) k 0 ≡ get_or (lengths q) k 0
unfolding lengths description old_note_lengths new_note_lengths
as_long p q k n = exchanged_length before behind p q k n

-- the end of the file moves, too
pub whole_moved : (p : ℕ) → case_length p ≡ p + case_length 0
unfolding case_length offset total lengths description old_note_lengths new_note_lengths
whole_moved p = moved p 38 (omega arith)

-- document 01's offsets
places : map (offset 296) (vpub_old ∷ vpub_new ∷ anchor ∷ nullifier 1 ∷ commitment 1 ∷ ephemeral_key ∷ seed ∷ tag 1 ∷ proof ∷ ciphertext 1 ∷ transaction_key ∷ of_old 1 0 ∷ of_old 2 0 ∷ of_new 1 0 ∷ of_new 2 0 ∷ phi ∷ [])
    ≡ 0 ∷ 8 ∷ 16 ∷ 48 ∷ 112 ∷ 176 ∷ 208 ∷ 240 ∷ 304 ∷ 600 ∷ 1802 ∷ 1834 ∷ 2902 ∷ 3970 ∷ 4074 ∷ 4178 ∷ []
unfolding offset total lengths description old_note_lengths new_note_lengths
places = refl

-- a field read with zeros behind the file's end is the same from the bytes that the file has
pub present_field : (k : ℕ) (c : List ℕ) → field 0 (get_or (lengths (proof_length c)) k 0) (present_of k c) ≡ part_of k c
unfolding present_of part_of
present_field k c = field_present (offset (proof_length c) k) (get_or (lengths (proof_length c)) k 0) c
