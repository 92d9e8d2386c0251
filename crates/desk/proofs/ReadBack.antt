-- The written case, field by field: every input is the draft's, and every field that was worked out is what the case's own notes and keys give.
-- Assumes nothing.
use Prim.Native.Nat.{ℕ}
use mathlib.Core.Path.{◌≡◌, refl, sym, ap, ◌∙◌}
use mathlib.Core.Bool.{true, false, cond, not, false≢true}
use mathlib.Core.List.{List}
use borrow.Author.Tests.{eqb-true}
use lib.Dec.{eqb, leb}
use lib.ListN.{length, get_or}
use Rattle.octets.proofs.BoolLaws.{and_both}
use Rattle.units.specs.Pairs.{ForBoth}
use Rattle.refusals.proofs.RuleLaws.{by_test}
use Rattle.sha256.proofs.Laws.{compress_length, sha256_length}
use Rattle.sprout.specs.Hashes.{prefixed, address_from, nullifier_from, mac_from, rho_from, commitment_from}
use Rattle.casefile.specs.Layout.{description, old_note_lengths, new_note_lengths, lengths, proof_length, part_of, nullifier, commitment, tag, proof, of_old, of_new, phi}
use Rattle.casefile.specs.Fields.{has_length, seed_of, nullifier_of, commitment_of, tag_of, transaction_key_of, old_key_of, old_address_of, old_rho_of, new_address_of, new_value_of, new_rho_of, new_trapdoor_of, phi_of}
use Rattle.casefile.specs.Writing.{put_part}
use Rattle.casefile.proofs.LayoutLaws.{as_long}
use Rattle.casefile.proofs.WritingLaws.{put_part_lem, put_length}
use Rattle.statement.specs.CaseRefusals.{h_sig_of}
use Rattle.desk.specs.Inputs.{is_worked_out, is_input, SameInputs}
use Rattle.desk.specs.Drafts.{with_old, with_old_notes, with_rho, with_new, with_new_notes, written}
use Rattle.desk.proofs.OneFile.{WorkedOut}
use Rattle.desk.proofs.WrittenLaws.{whole_as, old_length, old_notes_length, new_length, written_length}

-- a hash has 32 bytes
prefixed_long : (n : ℕ) (k r : List ℕ) → length (prefixed n k r) ≡ 32
unfolding prefixed
prefixed_long n k r = compress_length _

address_long : (k : List ℕ) → length (address_from k) ≡ 32
unfolding address_from
address_long k = prefixed_long _ k _

nullifier_long : (k r : List ℕ) → length (nullifier_from k r) ≡ 32
unfolding nullifier_from
nullifier_long k r = prefixed_long _ k r

mac_long : (i : ℕ) (k h : List ℕ) → length (mac_from i k h) ≡ 32
unfolding mac_from
mac_long i k h = prefixed_long _ k h

rho_long : (i : ℕ) (p h : List ℕ) → length (rho_from i p h) ≡ 32
unfolding rho_from
rho_long i p h = prefixed_long _ p h

commitment_long : (a : List ℕ) (v : ℕ) (q r : List ℕ) → length (commitment_from a v q r) ≡ 32
unfolding commitment_from
commitment_long a v q r = sha256_length _

-- field k has 32 bytes in either edition
abbrev Has32 : ℕ → Type 0
Has32 k = (get_or (lengths 0) k 0 ≡ 32) × (eqb k proof ≡ false)

put_32 : (k j : ℕ) (b c : List ℕ) → has_length c ≡ true → length b ≡ 32 → Has32 k → part_of j (put_part k b c) ≡ cond (eqb j k) b (part_of j c)
put_32 k j b c w l h = put_part_lem k j b c w (l ∙ sym (as_long (proof_length c) 0 k (λ e. false≢true (sym h.1 ∙ rw e)) ∙ h.0))

-- what is worked out for old note and new note i has its fields of 32 bytes, apart from those that it is worked out of
record Placed (i : ℕ) : Type 0 where
  nullifier_32 : Has32 (nullifier i)
  address_32 : Has32 (of_old i 1)
  tag_32 : Has32 (tag i)
  rho_32 : Has32 (of_new i 2)
  commitment_32 : Has32 (commitment i)
  apart : (eqb (of_new i 0) (tag i) ≡ false) × ((eqb (of_new i 1) (tag i) ≡ false) × (eqb (of_new i 3) (tag i) ≡ false))

one : Placed 1
unfolding lengths description old_note_lengths new_note_lengths
one =
    record {
      nullifier_32 = (refl, refl);
      address_32 = (refl, refl);
      tag_32 = (refl, refl);
      rho_32 = (refl, refl);
      commitment_32 = (refl, refl);
      apart = (refl, (refl, refl));
    }

two : Placed 2
unfolding lengths description old_note_lengths new_note_lengths
two =
    record {
      nullifier_32 = (refl, refl);
      address_32 = (refl, refl);
      tag_32 = (refl, refl);
      rho_32 = (refl, refl);
      commitment_32 = (refl, refl);
      apart = (refl, (refl, refl));
    }

module _ (i j : ℕ) (at : Placed i) (c : List ℕ) (whole : has_length c ≡ true) where
  -- field j after old note i was worked out
  old_part : part_of j (with_old i c) ≡ cond (eqb j (nullifier i)) (nullifier_from (old_key_of i c) (old_rho_of i c)) (cond (eqb j (of_old i 1)) (address_from (old_key_of i c)) (part_of j c))
  unfolding with_old
  old_part =
      let key = old_key_of i c in
      let a = put_part (of_old i 1) (address_from key) c in
      put_32 (nullifier i) j (nullifier_from key (old_rho_of i c)) a (whole_as a c (put_length (of_old i 1) (address_from key) c) whole) (nullifier_long key (old_rho_of i c)) at.nullifier_32
      ∙ ap (cond (eqb j (nullifier i)) (nullifier_from key (old_rho_of i c))) (put_32 (of_old i 1) j (address_from key) c whole (address_long key) at.address_32)

  -- and after what is over hSig: tag i, and new note i
  module _ (h : List ℕ) where
    abbrev rho : List ℕ
    rho = rho_from i (phi_of c) h

    abbrev tagged : List ℕ
    tagged = put_part (tag i) (mac_from i (old_key_of i c) h) c

    tagged_whole : has_length tagged ≡ true
    tagged_whole = whole_as tagged c (put_length (tag i) (mac_from i (old_key_of i c) h) c) whole

    tagged_part : (k : ℕ) → part_of k tagged ≡ cond (eqb k (tag i)) (mac_from i (old_key_of i c) h) (part_of k c)
    tagged_part k = put_32 (tag i) k (mac_from i (old_key_of i c) h) c whole (mac_long i (old_key_of i c) h) at.tag_32

    committed : commitment_from (new_address_of i tagged) (new_value_of i tagged) rho (new_trapdoor_of i tagged) ≡ commitment_from (new_address_of i c) (new_value_of i c) rho (new_trapdoor_of i c)
    unfolding new_address_of new_value_of new_trapdoor_of
    committed = rw (tagged_part (of_new i 0), tagged_part (of_new i 1), tagged_part (of_new i 3), at.apart.0, at.apart.1.0, at.apart.1.1)

    new_part : part_of j (with_new i h c)
        ≡ cond (eqb j (commitment i)) (commitment_from (new_address_of i c) (new_value_of i c) rho (new_trapdoor_of i c))
        (cond (eqb j (of_new i 2)) rho (cond (eqb j (tag i)) (mac_from i (old_key_of i c) h) (part_of j c)))
    unfolding with_new with_rho
    new_part =
        let b = put_part (of_new i 2) rho tagged in
        let m = commitment_from (new_address_of i tagged) (new_value_of i tagged) rho (new_trapdoor_of i tagged) in
        put_32 (commitment i) j m b (whole_as b tagged (put_length (of_new i 2) rho tagged) tagged_whole) (commitment_long _ _ _ _) at.commitment_32
        ∙ rw (committed, put_32 (of_new i 2) j rho tagged tagged_whole (rho_long i (phi_of c) h) at.rho_32, tagged_part j)

-- an input is no field that is worked out
apart : (k m : ℕ) → is_input k ≡ true → is_worked_out m ≡ true → eqb k m ≡ false
unfolding is_input
apart k m i w =
    by_test (eqb k m)
    (λ e. let j = ap is_input (sym (eqb-true k m e)) ∙ i in
    absurd (false≢true (sym (ap not w) ∙ (and_both (leb m phi) (not (is_worked_out m)) j).1)))
    (λ e. e)

module _ (d : List ℕ) (whole : has_length d ≡ true) where
  -- the draft with one old note worked out, with both, and with one new note
  abbrev d1 : List ℕ
  d1 = with_old 1 d

  abbrev d2 : List ℕ
  d2 = with_old_notes d

  abbrev h : List ℕ
  h = h_sig_of d2

  abbrev d3 : List ℕ
  d3 = with_new 1 h d2

  whole1 : has_length d1 ≡ true
  whole1 = whole_as d1 d (old_length 1 d) whole

  whole2 : has_length d2 ≡ true
  whole2 = whole_as d2 d (old_notes_length d) whole

  whole3 : has_length d3 ≡ true
  whole3 = whole_as d3 d2 (new_length 1 h d2) whole2

  pub written_whole : has_length (written d) ≡ true
  written_whole = whole_as (written d) d (written_length d) whole

  old_input : (k : ℕ) → is_input k ≡ true → part_of k d2 ≡ part_of k d
  unfolding with_old_notes is_worked_out
  old_input k i =
      rw (old_part 2 k two d1 whole1, apart k (nullifier 2) i refl, apart k (of_old 2 1) i refl, old_part 1 k one d whole, apart k (nullifier 1) i refl, apart k (of_old 1 1) i refl)

  first_input : (k : ℕ) → is_input k ≡ true → part_of k d1 ≡ part_of k d
  unfolding is_worked_out
  first_input k i = rw (old_part 1 k one d whole, apart k (nullifier 1) i refl, apart k (of_old 1 1) i refl)

  third_input : (k : ℕ) → is_input k ≡ true → part_of k d3 ≡ part_of k d
  unfolding is_worked_out
  third_input k i =
      rw (new_part 1 k one d2 whole2 h, apart k (commitment 1) i refl, apart k (of_new 1 2) i refl, apart k (tag 1) i refl) (old_input k i)

  written_part : (k : ℕ) → part_of k (written d)
      ≡ cond (eqb k (commitment 2)) (commitment_from (new_address_of 2 d3) (new_value_of 2 d3) (rho_from 2 (phi_of d3) h) (new_trapdoor_of 2 d3))
      (cond (eqb k (of_new 2 2)) (rho_from 2 (phi_of d3) h) (cond (eqb k (tag 2)) (mac_from 2 (old_key_of 2 d3) h) (part_of k d3)))
  unfolding written with_new_notes
  written_part k = new_part 2 k two d3 whole3 h

  -- THE INPUTS, READ BACK from the case, are the draft's
  written_input : (k : ℕ) → is_input k ≡ true → part_of k (written d) ≡ part_of k d
  unfolding is_worked_out
  written_input k i =
      rw (written_part k, apart k (commitment 2) i refl, apart k (of_new 2 2) i refl, apart k (tag 2) i refl) (third_input k i)

  pub inputs_back : SameInputs (written d) d
  inputs_back = record { long = written_length d; inputs = written_input }

  pub old_notes_back : SameInputs d2 d
  old_notes_back = record { long = old_notes_length d; inputs = old_input }

  -- WHAT WAS WORKED OUT. Of the old notes it is the same in the case as when the notes were asked about
  abbrev w : List ℕ
  w = written d

  pub kept_nullifiers : ForBoth (λ i. nullifier_of i w ≡ nullifier_of i d2)
  unfolding nullifier_of
  kept_nullifiers = (written_part (nullifier 1) ∙ new_part 1 (nullifier 1) one d2 whole2 h, written_part (nullifier 2) ∙ new_part 1 (nullifier 2) one d2 whole2 h)

  pub kept_addresses : ForBoth (λ i. old_address_of i w ≡ old_address_of i d2)
  unfolding old_address_of
  kept_addresses = (written_part (of_old 1 1) ∙ new_part 1 (of_old 1 1) one d2 whole2 h, written_part (of_old 2 1) ∙ new_part 1 (of_old 2 1) one d2 whole2 h)

  kept_h_sig : h_sig_of w ≡ h
  unfolding h_sig_of seed_of transaction_key_of is_input is_worked_out
  kept_h_sig = simp (kept_nullifiers.0, kept_nullifiers.1, written_input, old_input)

  -- and each field is what the case's own notes and keys give
  nullifiers_right : ForBoth (λ i. nullifier_of i w ≡ nullifier_from (old_key_of i w) (old_rho_of i w))
  unfolding nullifier_of with_old_notes old_key_of old_rho_of is_input is_worked_out
  nullifiers_right = (
    kept_nullifiers.0 ∙ old_part 2 (nullifier 1) two d1 whole1 ∙ old_part 1 (nullifier 1) one d whole ∙ simp (written_input),
    kept_nullifiers.1 ∙ old_part 2 (nullifier 2) two d1 whole1 ∙ simp (written_input, first_input),
  )

  addresses_right : ForBoth (λ i. old_address_of i w ≡ address_from (old_key_of i w))
  unfolding old_address_of with_old_notes old_key_of is_input is_worked_out
  addresses_right = (
    kept_addresses.0 ∙ old_part 2 (of_old 1 1) two d1 whole1 ∙ old_part 1 (of_old 1 1) one d whole ∙ simp (written_input),
    kept_addresses.1 ∙ old_part 2 (of_old 2 1) two d1 whole1 ∙ simp (written_input, first_input),
  )

  tags_right : ForBoth (λ i. tag_of i w ≡ mac_from i (old_key_of i w) (h_sig_of w))
  unfolding tag_of old_key_of is_input is_worked_out
  tags_right = (
    written_part (tag 1) ∙ new_part 1 (tag 1) one d2 whole2 h ∙ simp (kept_h_sig, written_input, old_input),
    written_part (tag 2) ∙ simp (kept_h_sig, written_input, third_input),
  )

  rhos_right : ForBoth (λ i. new_rho_of i w ≡ rho_from i (phi_of w) (h_sig_of w))
  unfolding new_rho_of phi_of is_input is_worked_out
  rhos_right = (
    written_part (of_new 1 2) ∙ new_part 1 (of_new 1 2) one d2 whole2 h ∙ simp (kept_h_sig, written_input, old_input),
    written_part (of_new 2 2) ∙ simp (kept_h_sig, written_input, third_input),
  )

  commitments_right : ForBoth (λ i. commitment_of i w ≡ commitment_from (new_address_of i w) (new_value_of i w) (new_rho_of i w) (new_trapdoor_of i w))
  unfolding commitment_of new_address_of new_value_of new_trapdoor_of phi_of is_input is_worked_out
  commitments_right = (
    written_part (commitment 1) ∙ new_part 1 (commitment 1) one d2 whole2 h ∙ simp (rhos_right.0, kept_h_sig, written_input, old_input),
    written_part (commitment 2) ∙ simp (rhos_right.1, kept_h_sig, written_input, third_input),
  )

  pub all_right : WorkedOut w
  all_right =
      record { nullifiers = nullifiers_right; addresses = addresses_right; tags = tags_right; rhos = rhos_right; commitments = commitments_right }
