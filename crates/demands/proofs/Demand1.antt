-- THE FIRST DEMAND of judging, closing and opening, over all bytes and all ledgers: each answer is that of the first sentence that holds, and no other; the
-- numbers and places are those of document 01, once each; and after a refusal all is as it was. Bags and seals have theirs in Demand1Bags.
-- Assumes nothing.
use Prim.Native.Nat.{ℕ, ◌<◌}
use mathlib.Core.Path.{◌≡◌, refl, sym, ap}
use mathlib.Core.Bool.{false≢true}
use mathlib.Core.List.{List, [], ◌∷◌, Memᴰ}
use native.Mathlib.Omega.{arith}
use borrow.Author.Tests.{ne_eqb, eqb-true, eq-eqb}
use lib.Dec.{eqb}
use lib.ListN.{length}
use Rattle.refusals.specs.Rules.{rules_in, first, numbered}
use Rattle.refusals.specs.Sentences.{AnswersBy, places_of, OneOf}
use Rattle.refusals.proofs.SentenceLaws.{Tells, tells_equal, tells_below, tells_at_most, tells_above, tells_not, tells_both, tells_either, tells_same, Agree, done, ◌&◌, answers_by}
use Rattle.sprout.specs.Hashes.{has_top_bits}
use Rattle.casefile.proofs.Editions.{two_lengths}
use Rattle.statement.specs.CaseRefusals.{both_public, above_money, out_of_range, ends_elsewhere, unbalanced, differs, path_end_of, no1, no4, no5, no7, no9, no10, no11, no12, no13, no14, no15, no16, range_of, strays_of, unbalanced_of, nullifier_wrong, address_wrong, tag_wrong, rho_wrong, commitment_wrong, old_commitment_of, h_sig_of}
use Rattle.ledger.specs.declared.Ledger.{Ledger}
use Rattle.std.specs.declared.cmp.Ordering.{Ordering}
use Rattle.std.specs.declared.cmp.Ordering.TheVariants.{Less, Equal, Greater}
use Rattle.std.specs.Ordering.{is_lt}
use Rattle.ledger.specs.Sorted.{rising}
use Rattle.ledger.specs.Rows.{byte_order, among}
use Rattle.ledger.specs.Ledgers.{most_anchors, room_in, spent_rows, damage, damaged, some, pool_after, outside, no2, no3, no6, no8, no17, close_refusals, closed_of, roll_after_close, open_refusals, empty_ledger, opened_of, roll_after_open}
use Rattle.ledger.proofs.Soundness.{among_member, member_among}
use Rattle.ledger.proofs.Endings.{close_refused, open_refused}
use Rattle.judge.specs.Judging.{judge_refusals, answer_of, ledger_after_case, table_after_case}
use Rattle.judge.proofs.Halves.{numbers}
use Rattle.judge.proofs.Outcomes.{refused_ledger, refused_table}
use Rattle.demands.specs.Refusals.{Rises, Damaged, case_sentences, all_places, close_sentences, open_sentences}

-- TESTS ON ROWS, and what they tell
a_member : {x : List ℕ} {rows : List (List ℕ)} → Tells (among x rows) (Memᴰ x rows)
a_member {x} {rows} = (among_member x rows, member_among x rows)

less : (o : Ordering) → Tells (is_lt o) (o ≡ Less)
less Less = (λ h. refl, λ e. refl)
less Equal = (λ h. absurd (false≢true h), λ e. ap is_lt e)
less Greater = (λ h. absurd (false≢true h), λ e. ap is_lt e)

rises : (rows : List (List ℕ)) → Tells (rising byte_order rows) (Rises rows)
unfolding rising Rises
rises [] = (λ h. tt, λ h. refl)
rises (x ∷ []) = (λ h. tt, λ h. refl)
rises (x ∷ y ∷ rows) = tells_both (less (byte_order x y)) (rises (y ∷ rows))

-- DAMAGE, by its list of tests
damage_told : (t r : List ℕ) (l : Ledger) → Tells (damaged t r l) (Damaged t r l)
unfolding damaged damage Damaged OneOf some
damage_told t r l =
    tells_either (tells_not tells_equal)
    (tells_either tells_below
    (tells_either (tells_not (rises (spent_rows t l)))
    (tells_either (tells_not tells_equal)
    (tells_either tells_equal
    (tells_either tells_below
    (tells_either tells_below (λ h. absurd (false≢true h), λ x. absurd x)))))))

-- for any bytes c, any table t, any roll r and any ledger value l
module _ (c t r : List ℕ) (l : Ledger) where
  -- A CASE: row by row of the judge's table
  rows_told : Agree (judge_refusals c t r l) (case_sentences c t r l)
  unfolding judge_refusals rules_in case_sentences no1 no2 no3 no4 no5 no6 no7 no8 no9 no10 no11 no12 no13 no14 no15 no16 no17 outside pool_after both_public above_money has_top_bits out_of_range ends_elsewhere unbalanced differs path_end_of range_of strays_of unbalanced_of nullifier_wrong address_wrong tag_wrong rho_wrong commitment_wrong old_commitment_of h_sig_of
  rows_told =
      tells_not (two_lengths c)
      & damage_told t r l
      & tells_below
      & tells_both (tells_not tells_equal) (tells_not tells_equal)
      & tells_below
      & tells_below
      & tells_not a_member
      & tells_same
      & a_member
      & a_member
      & tells_either tells_above tells_at_most
      & tells_either tells_above tells_at_most
      & tells_above
      & tells_both (tells_not tells_equal) (tells_not tells_same)
      & tells_both (tells_not tells_equal) (tells_not tells_same)
      & tells_either (tells_not tells_equal) tells_below
      & tells_not tells_same
      & tells_not tells_same
      & tells_not tells_same
      & tells_not tells_same
      & tells_not tells_same
      & tells_not tells_same
      & tells_not tells_same
      & tells_not tells_same
      & tells_not tells_same
      & tells_not tells_same
      & tells_either tells_below tells_below
      & done

  pub case_answered : AnswersBy (case_sentences c t r l) (answer_of c t r l)
  unfolding answer_of
  case_answered = answers_by (numbers c t r l) rows_told

  -- whatever the case and the ledger, these are the numbers and places, once each and in this order
  pub one_place : places_of (case_sentences c t r l) ≡ all_places
  unfolding places_of all_places case_sentences
  one_place = refl

  -- a refusal leaves the counts, the record, the pool and every byte of the table; the roll is lent to the judge for reading alone
  pub case_leaves : ((answer_of c t r l).number ≡ 0 → ⊥) → (ledger_after_case c t r l ≡ l) × (table_after_case c t r l ≡ t)
  case_leaves h =
      let no = ne_eqb (answer_of c t r l).number 0 h in
      (refused_ledger c t r l no, refused_table c t r l no)

-- CLOSING A BLOCK
module _ (t r : List ℕ) (l : Ledger) where
  pub close_answered : AnswersBy (close_sentences t r l) (first (close_refusals t r l))
  unfolding close_refusals rules_in close_sentences no2 numbered
  close_answered = answers_by refl (damage_told t r l & tells_at_most & done)

  -- the table is lent for reading alone
  pub close_leaves : ((first (close_refusals t r l)).number ≡ 0 → ⊥) → (closed_of t r l ≡ l) × (roll_after_close t r l ≡ r)
  close_leaves h =
      let e = close_refused t r l (ne_eqb (first (close_refusals t r l)).number 0 h) in
      (sym e.0, sym e.1)

-- OPENING
module _ (r : List ℕ) where
  no_row : Tells (eqb (room_in most_anchors (length r)) 0) (length r < 32)
  unfolding room_in
  no_row = (λ h. let e = eqb-true (room_in most_anchors (length r)) 0 h in omega arith, λ h. eq-eqb (room_in most_anchors (length r)) 0 (omega arith))

  pub open_answered : AnswersBy (open_sentences r) (first (open_refusals r))
  unfolding open_refusals open_sentences numbered
  open_answered = answers_by refl (no_row & done)

  -- no byte of the roll changes, the table is not lent at all, and what is handed back is all zero
  pub open_leaves : ((first (open_refusals r)).number ≡ 0 → ⊥) → (opened_of r ≡ empty_ledger 0) × (roll_after_open r ≡ r)
  open_leaves h =
      let e = open_refused r (ne_eqb (first (open_refusals r)).number 0 h) in
      (sym e.0, sym e.1)
