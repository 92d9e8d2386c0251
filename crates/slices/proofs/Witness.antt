-- Two records that are the same up to where the witness of their case begins: count, answer and the public part of the case are the same.
-- Assumes nothing.
use Prim.Native.Nat.{ℕ, ◌+◌, ◌<◌, ◌≤◌}
use mathlib.Core.Path.{◌≡◌, sym, ap, ◌∙◌}
use mathlib.Core.Bool.{true}
use mathlib.Core.List.{List}
use native.Mathlib.Omega.{arith}
use lib.ListN.{length, get_or, take}
use lib.Seq.{get_or-take}
use Rattle.octets.specs.Parts.{field}
use Rattle.octets.specs.Numbers.{little}
use Rattle.octets.proofs.Filling.{listed_agree}
use Rattle.octets.proofs.PartLaws.{field_length, field_field}
use Rattle.casefile.specs.Layout.{lengths, offset, case_length, proof_length, part_of}
use Rattle.casefile.specs.Fields.{has_length, vpub_old_of, vpub_new_of, anchor_of, nullifier_of, commitment_of}
use Rattle.casefile.proofs.Editions.{proof_by_length, whole_long}
use Rattle.casefile.proofs.LayoutLaws.{ends_before, ends_within}
use Rattle.judge.proofs.Settled.{SamePublic}
use Rattle.slices.specs.Records.{steps_in, held_length, case_in, holds_case, answer_in}
use Rattle.slices.proofs.RecordLaws.{whole}
use Rattle.slices.proofs.StepLaws.{holds_long}

-- what lies before the place
module _ (b b' : List ℕ) (w : ℕ) (e : take w b ≡ take w b') where
  same_byte : (i : ℕ) → i < w → get_or b i 0 ≡ get_or b' i 0
  same_byte i h = sym (get_or-take w b i 0 h) ∙ ap (λ (x : List ℕ). get_or x i 0) e ∙ get_or-take w b' i 0 h

  same_part : (at n : ℕ) → at + n ≤ w → field at n b ≡ field at n b'
  unfolding field
  same_part at n h = listed_agree _ _ n (λ i k. same_byte (at + i) (omega (arith, h, k)))

module _ (b b' : List ℕ) (h : holds_case b ≡ true) (l : length b ≡ length b') where
  abbrev c : List ℕ
  c = case_in b

  abbrev place : ℕ
  place = 70 + offset (proof_length c) 15

  module _ (e : take place b ≡ take place b') where
    pub same_steps : steps_in b ≡ steps_in b'
    unfolding steps_in
    same_steps = same_byte b b' place e 0 (omega arith)

    pub same_found : answer_in b ≡ answer_in b'
    unfolding answer_in
    same_found = rw (same_byte b b' place e 2 (omega arith), same_byte b b' place e 3 (omega arith), same_part b b' place e 4 2 (omega arith))

    abbrev n : ℕ
    n = held_length (get_or b 1 0)

    one : c ≡ field 70 n b
    one = whole b (holds_long b h)

    two : case_in b' ≡ field 70 n b'
    two = whole b' (sym l ∙ holds_long b h) ∙ ap (λ (x : ℕ). field 70 (held_length x) b') (sym (same_byte b b' place e 1 (omega arith)))

    one_long : length c ≡ n
    one_long = ap length one ∙ field_length 70 n b

    same_long : length c ≡ length (case_in b')
    same_long = one_long ∙ sym (ap length two ∙ field_length 70 n b')

    pub same_holds : holds_case b' ≡ true
    unfolding holds_case has_length
    same_holds = rw (sym same_long) h

    part : (k : ℕ) → k < 15 → part_of k c ≡ part_of k (case_in b')
    unfolding part_of offset case_length holds_case
    part k m =
        let ns = lengths (proof_length c) in
        let at = offset (proof_length c) k in
        let long = get_or ns k 0 in
        let in-case : at + long ≤ n = omega (arith, ends_within ns k, whole_long c h, one_long) in
        let in-front : 70 + at + long ≤ place = omega (arith, ends_before ns k 15 m) in
        ap (field at long) one ∙ field_field 70 n at long b in-case ∙ same_part b b' place e (70 + at) long in-front
        ∙ sym (rw (sym (proof_by_length c (case_in b') same_long)) (ap (field at long) two ∙ field_field 70 n at long b' in-case))

    pub same_public : SamePublic c (case_in b')
    unfolding anchor_of nullifier_of commitment_of vpub_old_of vpub_new_of
    same_public =
        record {
          anchor = part 2 (omega arith);
          nullifier_1 = part 3 (omega arith);
          nullifier_2 = part 4 (omega arith);
          commitment_1 = part 5 (omega arith);
          commitment_2 = part 6 (omega arith);
          old = ap little (part 0 (omega arith));
          new = ap little (part 1 (omega arith));
        }
