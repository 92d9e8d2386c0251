-- What each share leaves in a record, whether the steps made it or not: what it writes, and all else as it was.
-- Assumes nothing.
use Prim.Native.Nat.{ℕ, ◌+◌, ◌<◌, ◌≤◌}
use mathlib.Core.Path.{◌≡◌, refl, sym, ap, ◌∙◌}
use mathlib.Core.Bool.{true, not, false≢true}
use mathlib.Core.List.{List, ◌∷◌}
use native.Mathlib.Omega.{arith}
use borrow.Author.Tests.{eqb-true, eqb-false, eq-eqb, ne_eqb, leb-true}
use lib.Dec.{eqb, leb}
use lib.ListN.{length, get_or}
use Rattle.octets.proofs.PartLaws.{pasted_length}
use Rattle.refusals.specs.declared.Answer.{Answer}
use Rattle.refusals.specs.Rules.{first, rules_in, numbered}
use Rattle.refusals.proofs.RuleLaws.{by_test, one_fails, passed_by}
use Rattle.refusals.proofs.TwoTables.{all_up_to, up_to_first}
use Rattle.refusals.proofs.AnswerRows.{without_rows, no_row}
use Rattle.units.specs.declared.Which.{Which}
use Rattle.units.specs.declared.Which.TheVariants.{First, Second}
use Rattle.units.specs.Pairs.{number_of}
use Rattle.casefile.specs.Fields.{has_length}
use Rattle.statement.specs.CaseRefusals.{old_commitment_of, path_end_of, strays_of, no1, no4, no5, no7, no9, no10, no11, no12, no13, no14, no15, no16, derived_refusals, claim_refusals, witness_refusals, case_refusals}
use Rattle.ledger.specs.declared.Ledger.{Ledger}
use Rattle.judge.proofs.Settled.{settled_number, settled_row}
use Rattle.slices.specs.Records.{judgement_length, steps_in, case_in, holds_case, node_in, answer_in, with_steps, with_node, with_answer, node_at, with_case, without_case}
use Rattle.slices.specs.Steps.{parent_on, start_in, climbed_in, strays_in, held10, alone_refusals, found_in, checked_in, settled_by, settled_in, record_after_step, record_after_begin}
use Rattle.slices.proofs.RecordLaws.{no_record, nothing_long, steps_long, steps_put, steps_case, steps_node, steps_answer, node_long, node_case, node_put, node_answer, first_beside, second_beside, answer_long, answer_case, answer_node, answer_put}
use Rattle.slices.proofs.Levels.{parent_32}
use Rattle.slices.proofs.Shares.{share_any}

-- what holds a case is a record
pub holds_long : (b : List ℕ) → holds_case b ≡ true → length b ≡ judgement_length
unfolding holds_case
holds_long b h =
    by_test (eqb (length b) judgement_length)
    (λ e. eqb-true (length b) judgement_length e)
    (λ e. absurd (false≢true (sym (nothing_long (case_in b) (no_record b (eqb-false (length b) judgement_length e))) ∙ h)))

-- ONE LEVEL CLIMBED
module _ (b : List ℕ) (l : length b ≡ judgement_length) (i : Which) (k : ℕ) where
  abbrev n : ℕ
  n = number_of i

  abbrev x : List ℕ
  x = parent_on k n (case_in b) (start_in n k b)

  x_32 : length x ≡ 32
  x_32 = parent_32 n (case_in b) k (start_in n k b)

  abbrev held : List ℕ
  held = with_node n x b

  held_long : length held ≡ judgement_length
  held_long = node_long b l i x x_32

  pub climbed_long : length (climbed_in n k b) ≡ judgement_length
  unfolding climbed_in
  climbed_long = steps_long held held_long (steps_in b + 1)

  pub climbed_steps : steps_in (climbed_in n k b) ≡ steps_in b + 1
  unfolding climbed_in
  climbed_steps = steps_put held held_long (steps_in b + 1)

  pub climbed_case : case_in (climbed_in n k b) ≡ case_in b
  unfolding climbed_in
  climbed_case = steps_case held held_long (steps_in b + 1) ∙ node_case b l i x x_32

  pub climbed_node : node_in n (climbed_in n k b) ≡ parent_on k n (case_in b) (start_in n k b)
  unfolding climbed_in
  climbed_node = steps_node held held_long (steps_in b + 1) n ∙ node_put b l i x x_32

  pub climbed_answer : answer_in (climbed_in n k b) ≡ answer_in b
  unfolding climbed_in
  climbed_answer = steps_answer held held_long (steps_in b + 1) ∙ node_answer b l i x x_32

  -- from which node: the commitment at the lowest level, else the one held
  pub start_lowest : k ≡ 0 → start_in n k b ≡ old_commitment_of n (case_in b)
  unfolding start_in
  start_lowest e = rw (eq-eqb k 0 e)

  pub start_held : (k ≡ 0 → ⊥) → start_in n k b ≡ node_in n b
  unfolding start_in
  start_held e = rw (ne_eqb k 0 e)

-- the other path's node stays
module _ (b : List ℕ) (l : length b ≡ judgement_length) (k : ℕ) where
  pub climbed_second : node_in 2 (climbed_in 1 k b) ≡ node_in 2 b
  unfolding climbed_in
  climbed_second =
      let x = parent_on k 1 (case_in b) (start_in 1 k b) in
      let h = parent_32 1 (case_in b) k (start_in 1 k b) in
      steps_node (with_node 1 x b) (node_long b l First x h) (steps_in b + 1) 2 ∙ second_beside b l x h

  pub climbed_first : node_in 1 (climbed_in 2 k b) ≡ node_in 1 b
  unfolding climbed_in
  climbed_first =
      let x = parent_on k 2 (case_in b) (start_in 2 k b) in
      let h = parent_32 2 (case_in b) k (start_in 2 k b) in
      steps_node (with_node 2 x b) (node_long b l Second x h) (steps_in b + 1) 1 ∙ first_beside b l x h

-- THE CASE ALONE: none of these refusals has a number above 17 or a row
module _ (b : List ℕ) (l : length b ≡ judgement_length) where
  found_number : (found_in b).number ≤ 17
  unfolding alone_refusals rules_in all_up_to no4 no5 no7 no9 held10 claim_refusals derived_refusals no11 no12 no13 no14 no15 no16
  found_number = up_to_first 17 (rules_in (alone_refusals b)) refl

  pub found_no_row : (found_in b).row.0 ≡ 0
  unfolding alone_refusals rules_in without_rows no4 no5 no7 no9 held10 claim_refusals derived_refusals no11 no12 no13 no14 no15 no16
  found_no_row = no_row (rules_in (alone_refusals b)) refl

  abbrev noted : List ℕ
  noted = with_answer (found_in b) b

  noted_long : length noted ≡ judgement_length
  noted_long = answer_long b l (found_in b)

  pub checked_steps : steps_in (checked_in b) ≡ 59
  unfolding checked_in
  checked_steps = steps_put noted noted_long 59

  pub checked_case : case_in (checked_in b) ≡ case_in b
  unfolding checked_in
  checked_case = steps_case noted noted_long 59 ∙ answer_case b l (found_in b)

  pub checked_node : (i : ℕ) → node_in i (checked_in b) ≡ node_in i b
  unfolding checked_in
  checked_node i = steps_node noted noted_long 59 i ∙ answer_node b l (found_in b) i

  pub checked_answer : answer_in (checked_in b) ≡ found_in b
  unfolding checked_in
  checked_answer = steps_answer noted noted_long 59 ∙ answer_put b l (found_in b) found_number (omega (arith, found_no_row))

-- with the ends of both paths it is the case's own table
pub found_own : (b : List ℕ) → holds_case b ≡ true → ((i : Which) → node_in (number_of i) b ≡ path_end_of (number_of i) (case_in b))
    → found_in b ≡ first (rules_in (no4 (case_in b) ∷ no5 (case_in b) ∷ no7 (case_in b) ∷ witness_refusals (case_in b)))
unfolding alone_refusals held10 strays_in witness_refusals no10 strays_of
found_own b h ends = rw (ends First, ends Second)

pub own_no_row : (c : List ℕ) → (first (rules_in (no4 c ∷ no5 c ∷ no7 c ∷ witness_refusals c))).row.0 ≡ 0
unfolding rules_in without_rows no4 no5 no7 no9 no10 witness_refusals claim_refusals derived_refusals no11 no12 no13 no14 no15 no16
own_no_row c = no_row (rules_in (no4 c ∷ no5 c ∷ no7 c ∷ witness_refusals c)) refl

-- which is what is asked of a case of a case's length
pub own_whole : (c : List ℕ) → has_length c ≡ true → first (rules_in (no4 c ∷ no5 c ∷ no7 c ∷ witness_refusals c)) ≡ first (case_refusals c)
unfolding case_refusals numbered no1
own_whole c h = passed_by (no1 c) (no4 c ∷ no5 c ∷ no7 c ∷ witness_refusals c) _ refl (one_fails (not (has_length c)) 1 0 (ap not h)) refl

-- THE LEDGER ASKED: the answer held is one that a case can get, and so is the one that is given
pub held_number : (b : List ℕ) → (answer_in b).number ≤ 17
unfolding answer_in
held_number b = by_test (leb (get_or b 2 0) 17) (λ e. rw e (leb-true (get_or b 2 0) 17 e)) (λ e. rw e (omega arith))

module _ (b t r : List ℕ) (l : Ledger) (h : length b ≡ judgement_length) where
  abbrev given : Answer
  given = settled_by b t r l

  pub settled_steps : steps_in (settled_in b t r l) ≡ 60
  unfolding settled_in
  settled_steps = steps_put (with_answer given b) (answer_long b h given) 60

  pub settled_case : case_in (settled_in b t r l) ≡ case_in b
  unfolding settled_in
  settled_case = steps_case (with_answer given b) (answer_long b h given) 60 ∙ answer_case b h given

  pub settled_answer_lem : (answer_in b).row.0 < 65536 → answer_in (settled_in b t r l) ≡ given
  unfolding settled_in
  settled_answer_lem k =
      steps_answer (with_answer given b) (answer_long b h given) 60
      ∙ answer_put b h given (settled_number (answer_in b) (case_in b) t r l (held_number b)) (settled_row (answer_in b) (case_in b) t r l k)

-- A RECORD STAYS AS LONG AS IT IS, whatever is done to it
pub step_long : (b t r : List ℕ) (l : Ledger) → length (record_after_step b t r l) ≡ length b
unfolding record_after_step climbed_in checked_in settled_in with_steps with_node with_answer
step_long b t r l =
    share_any _ _ _ _ _ b (λ (x : List ℕ). length x ≡ length b) refl
    (λ i k. pasted_length 0 _ _ ∙ pasted_length (node_at i) _ b)
    (pasted_length 0 _ _ ∙ pasted_length 2 _ b) (pasted_length 0 _ _ ∙ pasted_length 2 _ b) refl

pub begin_long : (c b : List ℕ) → length (record_after_begin c b) ≡ length b
unfolding record_after_begin climbed_in with_steps with_node with_case without_case
begin_long c b =
    by_test (eqb (length b) judgement_length)
    (λ e. by_test (has_length c)
    (λ w. rw (e, w) (pasted_length 0 _ _ ∙ pasted_length 6 _ _ ∙ pasted_length 70 c _ ∙ pasted_length 0 _ b))
    (λ w. rw (e, w) (pasted_length 0 _ b)))
    (λ e. rw e)
