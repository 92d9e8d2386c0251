-- A case with another proof, of either edition's length, agrees with the case but for what is carried: so no edition says more than the other.
-- Assumes nothing.
use Prim.Native.Nat.{ℕ, ◌+◌, ◌-◌, ◌≤◌, ◌<◌}
use mathlib.Core.Path.{◌≡◌, refl, sym, ap, ◌∙◌}
use mathlib.Core.Logic.{◌⊎◌, inl, inr, ⊎_elim}
use mathlib.Core.Bool.{true, false≢true}
use mathlib.Core.List.{List, ◌++◌, append_assoc}
use native.Mathlib.Decide.{ℕ_discrete, dec_le}
use native.Mathlib.Nat.{lt_of_not-le}
use native.Mathlib.Omega.{arith}
use lib.ListN.{length, get_or, take, drop, length-append, length-drop, take-append-drop}
use lib.Seq.{length-take-le}
use Rattle.octets.specs.Parts.{field}
use Rattle.octets.proofs.PartLaws.{field_left, field_right}
use Rattle.casefile.specs.Layout.{description, old_note_lengths, new_note_lengths, lengths, total, offset, proof_length, part_of, proof, ciphertext}
use Rattle.casefile.specs.Fields.{has_length}
use Rattle.casefile.specs.Agreement.{is_carried, is_checked, AgreeButCarried, with_proof}
use Rattle.casefile.proofs.LayoutLaws.{ends_before, moved, unmoved, as_long}
use Rattle.casefile.proofs.Editions.{proof_bytes, two_lengths}

-- bytes with a part of them exchanged for others: what lies before the part is read at the same place, what lies behind it as much further on
module _ (c b : List ℕ) (at end : ℕ) (h : at ≤ end) (l : end ≤ length c) where
  read_before : (k n : ℕ) → k + n ≤ at → field k n (take at c ++ (b ++ drop end c)) ≡ field k n c
  read_before k n e =
      let m : length (take at c) ≡ at = length-take-le at c (omega arith) in
      field_left k n (take at c) (b ++ drop end c) (omega arith)
      ∙ sym (field_left k n (take at c) (drop at c) (omega arith)) ∙ ap (field k n) (take-append-drop at c)

  read_behind : (k n : ℕ) → field (at + length b + k) n (take at c ++ (b ++ drop end c)) ≡ field (end + k) n c
  read_behind k n =
      let m : length (take at c ++ b) ≡ at + length b = length-append (take at c) b ∙ ap (λ (j : ℕ). j + length b) (length-take-le at c (omega arith)) in
      let w : length (take end c) ≡ end = length-take-le end c l in
      ap (field (at + length b + k) n) (sym (append_assoc (take at c) b (drop end c)))
      ∙ field_right (at + length b + k) k n (take at c ++ b) (drop end c) (omega arith)
      ∙ sym (field_right (end + k) k n (take end c) (drop end c) (omega arith)) ∙ ap (field (end + k) n) (take-append-drop end c)

-- the proof lies at 304, whatever its length
starts : (p : ℕ) → offset p proof ≡ 304
unfolding offset total lengths description old_note_lengths new_note_lengths
starts p = refl

ends : (p : ℕ) → offset p (ciphertext 1) ≡ p + 304
unfolding offset total lengths description old_note_lengths new_note_lengths
ends p = moved p (ciphertext 1) (omega arith)

ends_there : (p k : ℕ) → k < proof → offset p k + get_or (lengths p) k 0 ≤ 304
unfolding offset
ends_there p k h = rw (starts p) at (ends_before (lengths p) k proof h)

starts_behind : (k : ℕ) → proof < k → 304 ≤ offset 0 k
unfolding offset
starts_behind k h = let e = ends_before (lengths 0) proof k h in omega (arith, e, starts 0)

module _ (b c : List ℕ) (whole : has_length c ≡ true) (two : (length b ≡ 296) ⊎ (length b ≡ 192)) where
  abbrev d : List ℕ
  d = take 304 c ++ (b ++ drop (proof_length c + 304) c)

  c_long : length c ≡ proof_length c + 3914
  c_long = ⊎_elim (λ e. omega (arith, proof_bytes c)) (λ e. omega (arith, proof_bytes c)) ((two_lengths c).0 whole)

  d_long : length d ≡ length b + 3914
  d_long = omega (arith, c_long, length-append (take 304 c) (b ++ drop (proof_length c + 304) c), length-append b (drop (proof_length c + 304) c), length-drop (proof_length c + 304) c, length-take-le 304 c (omega (arith, c_long)))

  d_proof : proof_length d ≡ length b
  d_proof = omega (arith, d_long, proof_bytes d)

  d_whole : has_length d ≡ true
  d_whole = (two_lengths d).1 (⊎_elim (λ e. inl (omega (arith, d_long))) (λ e. inr (omega (arith, d_long))) two)

  front : (k : ℕ) → k < proof → part_of k d ≡ part_of k c
  unfolding part_of
  front k h =
      let p = proof_length c in
      rw (d_proof, unmoved (length b) k (omega arith), sym (unmoved p k (omega arith)), as_long (length b) p k (λ e. absurd (omega arith)))
      (read_before c b 304 (p + 304) (omega arith) (omega (arith, c_long)) (offset p k) (get_or (lengths p) k 0) (ends_there p k h))

  back : (k : ℕ) → proof < k → part_of k d ≡ part_of k c
  unfolding part_of
  back k h =
      let p = proof_length c in
      let o = offset 0 k in
      let n = get_or (lengths p) k 0 in
      let l = starts_behind k h in
      let there : offset (length b) k ≡ 304 + length b + (o - 304) = moved (length b) k h ∙ omega arith in
      let here : p + 304 + (o - 304) ≡ offset p k = omega (arith, moved p k h) in
      rw (d_proof, as_long (length b) p k (λ e. absurd (omega arith)), there)
      (read_behind c b 304 (p + 304) (omega arith) (omega (arith, c_long)) (o - 304) n ∙ ap (λ (j : ℕ). field j n c) here)

  other_field : (k : ℕ) → is_checked k ≡ true → Dec (k ≡ proof) → Dec (k ≤ proof) → part_of k c ≡ part_of k d
  unfolding is_checked is_carried
  other_field k h (yes e) l = absurd (false≢true (rw e at h))
  other_field k h (no n) (yes l) = sym (front k (omega arith))
  other_field k h (no n) (no l) = sym (back k (lt_of_not-le l))

  -- it is of the edition that the new proof has the length of
  pub other_long : length (with_proof b c) ≡ length b + 3914
  unfolding with_proof
  other_long = rw (starts (proof_length c), ends (proof_length c)) d_long

  pub other_proof : AgreeButCarried c (with_proof b c)
  unfolding with_proof
  other_proof = rw (starts (proof_length c), ends (proof_length c)) (record {
    whole = whole ∙ sym d_whole;
    fields = λ k h. other_field k h (ℕ_discrete k proof) (dec_le k proof);
  })
