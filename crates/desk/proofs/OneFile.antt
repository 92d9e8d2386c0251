-- Two files with the same inputs, in each of which what is worked out is right, are one: so a draft has one case.
-- Assumes nothing.
use Prim.Native.Nat.{ℕ, suc, ◌+◌, ◌<◌}
use mathlib.Core.Path.{◌≡◌, refl, sym, ap, ◌∙◌}
use mathlib.Core.Bool.{true, false}
use mathlib.Core.List.{List, [], ◌∷◌}
use native.Mathlib.Omega.{arith}
use borrow.Author.Tests.{eqb-true, le-leb}
use lib.Dec.{eqb}
use lib.ListN.{length, get_or}
use lib.Seq.{ext_get_or}
use Rattle.octets.specs.Rows.{flat}
use Rattle.units.specs.Pairs.{ForBoth}
use Rattle.refusals.proofs.RuleLaws.{by_test}
use Rattle.sprout.specs.Hashes.{address_from, nullifier_from, mac_from, rho_from, commitment_from}
use Rattle.casefile.specs.Layout.{description, old_note_lengths, new_note_lengths, lengths, case_length, proof_length, part_of, parts_from, nullifier, commitment, tag, of_old, of_new, phi}
use Rattle.casefile.specs.Fields.{has_length, seed_of, nullifier_of, commitment_of, tag_of, transaction_key_of, old_key_of, old_address_of, old_rho_of, new_address_of, new_value_of, new_rho_of, new_trapdoor_of, phi_of}
use Rattle.casefile.proofs.LayoutLaws.{parts_fill, part_at}
use Rattle.casefile.proofs.Editions.{proof_by_length, whole_long}
use Rattle.statement.specs.CaseRefusals.{h_sig_of}
use Rattle.desk.specs.Inputs.{is_worked_out, is_input, SameInputs}
use Rattle.desk.proofs.WrittenLaws.{whole_as}

-- a file in which each field that is worked out is what its own notes and keys give: 12 to 16 of document 01
pub record WorkedOut (c : List ℕ) : Type 0 where
  pub nullifiers : ForBoth (λ i. nullifier_of i c ≡ nullifier_from (old_key_of i c) (old_rho_of i c))
  pub addresses : ForBoth (λ i. old_address_of i c ≡ address_from (old_key_of i c))
  pub tags : ForBoth (λ i. tag_of i c ≡ mac_from i (old_key_of i c) (h_sig_of c))
  pub rhos : ForBoth (λ i. new_rho_of i c ≡ rho_from i (phi_of c) (h_sig_of c))
  pub commitments : ForBoth (λ i. commitment_of i c ≡ commitment_from (new_address_of i c) (new_value_of i c) (new_rho_of i c) (new_trapdoor_of i c))

-- as many fields as lengths
as_many : (at : ℕ) (ns c : List ℕ) → length (parts_from at ns c) ≡ length ns
unfolding parts_from
as_many at [] c = refl
as_many at (n ∷ ns) c = ap suc (as_many (at + n) ns c)

many : (p : ℕ) → length (lengths p) ≡ 38
unfolding lengths description old_note_lengths new_note_lengths
many p = refl

-- whole files of one length with the same fields are one
module _ (c d : List ℕ) (whole : has_length c ≡ true) (long : length c ≡ length d) where
  abbrev p : ℕ
  p = proof_length c

  same_proof : proof_length d ≡ p
  same_proof = proof_by_length d c (sym long)

  same_fields : ((k : ℕ) → k < 38 → part_of k c ≡ part_of k d) → c ≡ d
  same_fields f =
      let c-is = parts_fill p c (whole_long c whole) in
      let d-is = parts_fill p d (whole_long d (whole_as d c (sym long) whole) ∙ ap case_length same_proof) in
      let lc = as_many 0 (lengths p) c ∙ many p in
      let ld = as_many 0 (lengths p) d ∙ many p in
      sym c-is ∙ ap flat (ext_get_or [] (parts_from 0 (lengths p) c) (parts_from 0 (lengths p) d) (lc ∙ sym ld) (λ k h. at k (omega arith))) ∙ d-is
    where
      at : (k : ℕ) → k < 38 → get_or (parts_from 0 (lengths p) c) k [] ≡ get_or (parts_from 0 (lengths p) d) k []
      at k s = part_at k c s ∙ f k s ∙ sym (ap (λ (q : ℕ). get_or (parts_from 0 (lengths q) d) k []) (sym same_proof) ∙ part_at k d s)

-- THE ONE FILE
module _ (c d : List ℕ) (agree : SameInputs c d) (right : WorkedOut c) (too : WorkedOut d) where
  same_nullifiers : ForBoth (λ i. nullifier_of i c ≡ nullifier_of i d)
  unfolding old_key_of old_rho_of is_input is_worked_out
  same_nullifiers = (right.nullifiers.0 ∙ sym (too.nullifiers.0 ∙ simp agree.inputs), right.nullifiers.1 ∙ sym (too.nullifiers.1 ∙ simp agree.inputs))

  same_h_sig : h_sig_of c ≡ h_sig_of d
  unfolding h_sig_of seed_of transaction_key_of is_input is_worked_out
  same_h_sig = simp (agree.inputs, same_nullifiers.0, same_nullifiers.1)

  same_addresses : ForBoth (λ i. old_address_of i c ≡ old_address_of i d)
  unfolding old_key_of is_input is_worked_out
  same_addresses = (right.addresses.0 ∙ sym (too.addresses.0 ∙ simp agree.inputs), right.addresses.1 ∙ sym (too.addresses.1 ∙ simp agree.inputs))

  same_tags : ForBoth (λ i. tag_of i c ≡ tag_of i d)
  unfolding old_key_of is_input is_worked_out
  same_tags = (right.tags.0 ∙ sym (too.tags.0 ∙ simp (agree.inputs, same_h_sig)), right.tags.1 ∙ sym (too.tags.1 ∙ simp (agree.inputs, same_h_sig)))

  same_rhos : ForBoth (λ i. new_rho_of i c ≡ new_rho_of i d)
  unfolding phi_of is_input is_worked_out
  same_rhos = (right.rhos.0 ∙ sym (too.rhos.0 ∙ simp (agree.inputs, same_h_sig)), right.rhos.1 ∙ sym (too.rhos.1 ∙ simp (agree.inputs, same_h_sig)))

  same_commitments : ForBoth (λ i. commitment_of i c ≡ commitment_of i d)
  unfolding new_address_of new_value_of new_trapdoor_of is_input is_worked_out
  same_commitments = (
    right.commitments.0 ∙ sym (too.commitments.0 ∙ simp (agree.inputs, same_rhos.0)),
    right.commitments.1 ∙ sym (too.commitments.1 ∙ simp (agree.inputs, same_rhos.1)),
  )

  -- field k, which is one of those or an input
  or_else : (k m : ℕ) → part_of m c ≡ part_of m d → (eqb k m ≡ false → part_of k c ≡ part_of k d) → part_of k c ≡ part_of k d
  or_else k m e f = by_test (eqb k m) (λ h. rw (eqb-true k m h) e) f

  each_field : (k : ℕ) → k < 38 → part_of k c ≡ part_of k d
  unfolding nullifier_of commitment_of tag_of old_address_of new_rho_of is_input is_worked_out
  each_field k s =
      or_else k (nullifier 1) same_nullifiers.0 (λ n1.
      or_else k (nullifier 2) same_nullifiers.1 (λ n2.
      or_else k (commitment 1) same_commitments.0 (λ c1.
      or_else k (commitment 2) same_commitments.1 (λ c2.
      or_else k (tag 1) same_tags.0 (λ t1.
      or_else k (tag 2) same_tags.1 (λ t2.
      or_else k (of_old 1 1) same_addresses.0 (λ a1.
      or_else k (of_old 2 1) same_addresses.1 (λ a2.
      or_else k (of_new 1 2) same_rhos.0 (λ r1.
      or_else k (of_new 2 2) same_rhos.1 (λ r2.
      agree.inputs k (rw (le-leb k phi (omega arith), n1, n2, c1, c2, t1, t2, a1, a2, r1, r2))))))))))))

  pub one_file : has_length c ≡ true → c ≡ d
  one_file whole = same_fields c d whole agree.long each_field
