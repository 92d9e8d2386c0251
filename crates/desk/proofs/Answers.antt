-- The desk's answer to a draft is what the case that it would write is answered, as far as that needs no ledger; and it depends on the inputs alone.
-- Assumes nothing.
use Prim.Native.Nat.{ℕ}
use mathlib.Core.Path.{◌≡◌, refl, sym, ap, ◌∙◌}
use mathlib.Core.Bool.{true, false, not}
use mathlib.Core.List.{List, [], ◌∷◌}
use borrow.Author.Tests.{eq-eqb, eqb-true}
use lib.Dec.{eqb}
use lib.ListN.{length}
use Rattle.octets.proofs.BoolLaws.{and_both}
use Rattle.refusals.specs.Rules.{Rule, answer, first, rules_in, None}
use Rattle.refusals.proofs.AnswerRows.{without_rows, no_row}
use Rattle.refusals.proofs.RuleLaws.{by_test, none_above, none_behind, rows_append}
use Rattle.casefile.specs.Fields.{has_length, vpub_old_of, vpub_new_of, anchor_of, old_key_of, old_value_of, old_rho_of, old_trapdoor_of, old_position_of, old_path_of, new_value_of, phi_of}
use Rattle.statement.specs.CaseRefusals.{no1, no4, no5, no7, no9, no10, no11, no12, no13, no14, no15, no16, range_of, old_commitment_of, path_end_of, strays_of, unbalanced_of, differs, nullifier_wrong, address_wrong, tag_wrong, rho_wrong, commitment_wrong, derived_refusals, claim_refusals, witness_refusals, case_refusals}
use Rattle.statement.proofs.Clauses.{alike}
use Rattle.desk.specs.Inputs.{is_worked_out, is_input, SameInputs}
use Rattle.desk.specs.Drafts.{with_old_notes, written, one_length, lengths1, notes_refusals, desk_refusals, desk_answer, buffer_after}
use Rattle.desk.proofs.OneFile.{WorkedOut, one_file}
use Rattle.desk.proofs.ReadBack.{inputs_back, old_notes_back, written_whole, kept_nullifiers, kept_addresses, all_right}
use Rattle.desk.proofs.WrittenLaws.{whole_as, written_length}

-- 4, 5, 9 and 11 read inputs alone
module _ (c d : List ℕ) (agree : SameInputs c d) where
  same_4 : no4 c ≡ no4 d
  unfolding no4 vpub_old_of vpub_new_of is_input is_worked_out
  same_4 = simp agree.inputs

  same_5 : no5 c ≡ no5 d
  unfolding no5 vpub_old_of vpub_new_of is_input is_worked_out
  same_5 = simp agree.inputs

  same_9 : no9 c ≡ no9 d
  unfolding no9 range_of old_key_of old_position_of phi_of is_input is_worked_out
  same_9 = simp agree.inputs

  same_11 : no11 c ≡ no11 d
  unfolding no11 unbalanced_of vpub_old_of vpub_new_of old_value_of new_value_of is_input is_worked_out
  same_11 = simp agree.inputs

-- where what is worked out is right, 12 to 16 do not apply
right_passes : (c : List ℕ) → WorkedOut c → None (rules_in (derived_refusals c))
unfolding derived_refusals rules_in None no12 no13 no14 no15 no16 nullifier_wrong address_wrong tag_wrong rho_wrong commitment_wrong differs
right_passes c w = (
  alike.1 w.nullifiers.0,
  (
    alike.1 w.nullifiers.1,
    (
      alike.1 w.addresses.0,
      (
        alike.1 w.addresses.1,
        (
          alike.1 w.tags.0,
          (
            alike.1 w.tags.1,
            (
              alike.1 w.rhos.0,
              (
                alike.1 w.rhos.1,
                (alike.1 w.commitments.0, (alike.1 w.commitments.1, tt)),
              ),
            ),
          ),
        ),
      ),
    ),
  ),
)

-- refusals 4, 5, 7, 9, 10 and 11 of a file
abbrev asked : List ℕ → List (List Rule)
asked c = no4 c ∷ no5 c ∷ no7 c ∷ no9 c ∷ no10 c ∷ no11 c ∷ []

module _ (d : List ℕ) (whole : has_length d ≡ true) where
  abbrev w : List ℕ
  w = written d

  back : SameInputs w d
  back = inputs_back d whole

  -- 7 and 10 read what is worked out of the old notes, which the case has, too
  same_7 : no7 (with_old_notes d) ≡ no7 w
  unfolding no7
  same_7 = rw (sym (kept_nullifiers d whole).0, sym (kept_nullifiers d whole).1)

  same_10 : no10 (with_old_notes d) ≡ no10 w
  unfolding no10 strays_of path_end_of old_commitment_of anchor_of old_value_of old_rho_of old_trapdoor_of old_position_of old_path_of is_input is_worked_out
  same_10 = simp ((old_notes_back d whole).inputs, back.inputs, (kept_addresses d whole).0, (kept_addresses d whole).1)

  desk_asks : desk_refusals d (length d) ≡ lengths1 d (length d) ∷ asked w
  unfolding desk_refusals notes_refusals
  desk_asks = rw (same_4 w d back, same_5 w d back, same_9 w d back, same_11 w d back, same_7, same_10)

  passes_1 : None (lengths1 d (length d))
  unfolding None lengths1 one_length
  passes_1 = (rw (whole, eq-eqb (length d) (length d) refl) refl, tt)

  whole_passes_1 : None (no1 w)
  unfolding None no1
  whole_passes_1 = (ap not (written_whole d whole), tt)

  -- THE ANSWER
  pub case_answer : first (case_refusals w) ≡ desk_answer d (length d)
  unfolding case_refusals witness_refusals claim_refusals desk_answer rules_in first
  case_answer =
      ap first (rows_append (no1 w ∷ asked w) (derived_refusals w))
      ∙ none_behind (rules_in (no1 w ∷ asked w)) (rules_in (derived_refusals w)) (right_passes w (all_right d whole))
      ∙ none_above (no1 w) (rules_in (asked w)) whole_passes_1
      ∙ sym (none_above (lengths1 d (length d)) (rules_in (asked w)) passes_1)
      ∙ ap (λ (g : List (List Rule)). first (rules_in g)) (sym desk_asks)

-- where the lengths are not one, nothing else is asked
pub refused_1 : (c : List ℕ) (n : ℕ) → one_length c n ≡ false → desk_answer c n ≡ answer 1 0
unfolding desk_answer desk_refusals lengths1 rules_in first
refused_1 c n h = rw h

pub passed_1 : (c : List ℕ) (n : ℕ) → one_length c n ≡ true → (has_length c ≡ true) × (n ≡ length c)
unfolding one_length
passed_1 c n h = let b = and_both (has_length c) (eqb n (length c)) h in (b.0, eqb-true n (length c) b.1)

-- WHAT IS NOT READ. Drafts with the same inputs are written as one case
module _ (d e : List ℕ) (agree : SameInputs d e) where
  module _ (whole : has_length d ≡ true) where
    whole_too : has_length e ≡ true
    whole_too = whole_as e d (sym agree.long) whole

    through : SameInputs (written d) (written e)
    through =
        record {
          long = written_length d ∙ agree.long ∙ sym (written_length e);
          inputs = λ k i. (inputs_back d whole).inputs k i ∙ agree.inputs k i ∙ sym ((inputs_back e whole_too).inputs k i);
        }

    pub same_case : written d ≡ written e
    same_case = one_file (written d) (written e) through (all_right d whole) (all_right e whole_too) (written_whole d whole)

    same_asked : desk_answer d (length d) ≡ desk_answer e (length e)
    same_asked = sym (case_answer d whole) ∙ ap (λ (c : List ℕ). first (case_refusals c)) same_case ∙ case_answer e whole_too

  same_lengths : (n : ℕ) → one_length d n ≡ one_length e n
  unfolding one_length has_length
  same_lengths n = rw agree.long

  pub same_desk_answer : (n : ℕ) → desk_answer d n ≡ desk_answer e n
  same_desk_answer n =
      by_test (one_length d n)
      (λ h. let p = passed_1 d n h in
      ap (desk_answer d) p.1 ∙ same_asked p.0 ∙ ap (desk_answer e) (sym (p.1 ∙ agree.long)))
      (λ h. refused_1 d n h ∙ sym (refused_1 e n (sym (same_lengths n) ∙ h)))

  pub same_buffer : (b : List ℕ) → buffer_after d b ≡ buffer_after e b
  unfolding buffer_after
  same_buffer b =
      by_test (one_length d (length b))
      (λ h. rw (same_desk_answer (length b), same_case (passed_1 d (length b) h).0))
      (λ h. rw (refused_1 d (length b) h, refused_1 e (length b) (sym (same_lengths (length b)) ∙ h)))

-- no answer of the desk's tells a row
pub tells_no_row : (d : List ℕ) (n : ℕ) → (desk_answer d n).row.0 ≡ 0
unfolding desk_answer desk_refusals notes_refusals lengths1 rules_in without_rows no4 no5 no7 no9 no10 no11
tells_no_row d n = no_row (rules_in (desk_refusals d n)) refl
