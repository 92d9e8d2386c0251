-- REQUEST No. 3. What the desk writes is the one file with the draft's inputs that a ledger can accept, and each that has nothing against it does; where the desk
-- refuses a whole draft, no such file is accepted anywhere.
-- Assumes nothing.
use Prim.Native.Nat.{ℕ, ◌+◌, ◌-◌, ◌<◌, ◌≤◌}
use mathlib.Core.Path.{◌≡◌, refl, sym, ap, ◌∙◌}
use mathlib.Core.Logic.{inl, inr, ◌↔◌, ⊎_elim}
use mathlib.Core.Bool.{Bool, true}
use mathlib.Core.List.Memᴰ
use mathlib.Core.List.{List, [], ◌∷◌}
use native.Mathlib.Decide.{dec_le}
use native.Mathlib.Nat.{lt_of_not-le}
use native.Mathlib.Omega.{arith}
use borrow.Author.Tests.{eq-eqb, ne_eqb}
use lib.ListN.{length}
use lib.Seq.{take_all}
use Rattle.octets.specs.Parts.{zeros, same}
use Rattle.octets.specs.Rows.{rows_of}
use Rattle.octets.specs.Numbers.{little}
use Rattle.octets.proofs.PartLaws.{field_length}
use Rattle.units.specs.Limits.{max_money}
use Rattle.units.specs.Pairs.{ForBoth}
use Rattle.refusals.specs.declared.Answer.{Answer}
use Rattle.refusals.specs.Rules.{Rule, rule, accepted, first, rules_in, for_each, lower, numbered}
use Rattle.refusals.specs.Sentences.{AnswersBy}
use Rattle.refusals.proofs.RuleLaws.{by_test}
use Rattle.refusals.proofs.SentenceLaws.{Tells, tells_equal, tells_below, tells_at_most, tells_above, tells_not, tells_both, tells_either, tells_same, Agree, done, ◌&◌, answers_by}
use Rattle.refusals.proofs.TwoTables.{lower_accepts}
use Rattle.sprout.specs.Hashes.{has_top_bits, address_from}
use Rattle.tree.specs.Record.{fresh_of, path_end}
use Rattle.casefile.specs.Layout.{part_of, lengths, description, vpub_old, vpub_new, anchor as anchor_field}
use Rattle.casefile.specs.Fields.{has_length, vpub_old_of, vpub_new_of, anchor_of, nullifier_of, old_key_of, old_address_of, old_value_of, old_rho_of, old_trapdoor_of, old_position_of, old_path_of}
use Rattle.casefile.proofs.Editions.{two_lengths}
use Rattle.statement.specs.CaseRefusals.{both_public, above_money, out_of_range, ends_elsewhere, unbalanced, range_of, strays_of, unbalanced_of, old_commitment_of, path_end_of, h_sig_of, no4, no5, no7, no9, no10, no11, case_refusals}
use Rattle.statement.proofs.Clauses.{Clauses, accepted_clauses}
use Rattle.desk.specs.Inputs.{is_worked_out, is_input, SameInputs}
use Rattle.desk.specs.Drafts.{written, one_length, lengths1, notes_refusals, desk_refusals, desk_answer, buffer_after}
use Rattle.desk.proofs.OneFile.{WorkedOut, one_file}
use Rattle.desk.proofs.ReadBack.{inputs_back, old_notes_back, kept_nullifiers, kept_addresses, all_right}
use Rattle.desk.proofs.Answers.{case_answer, refused_1, passed_1, same_desk_answer, same_buffer}
use Rattle.ledger.specs.declared.Ledger.{Ledger}
use Rattle.ledger.specs.Ledgers.{room_in, spent_rows, anchor_rows}
use Rattle.ledger.specs.Sorted.{rising}
use Rattle.ledger.proofs.Soundness.{Sound, sound_undamaged}
use Rattle.judge.specs.Judging.{ledgers_own, answer_of}
use Rattle.judge.proofs.Halves.{answer_lower}
use Rattle.demands.specs.Validity.{IsWhole}
use Rattle.demands.specs.Desk.{due_nullifier, due_note, desk_sentences, Admits, Acceptable}
use Rattle.demands.proofs.Demand2.{accepted_valid, admits}

not_less : (a b : ℕ) → (a < b → ⊥) → b ≤ a
not_less a b f = go (dec_le b a)
  where
    go : Dec (b ≤ a) → b ≤ a
    go (yes h) = h
    go (no h) = absurd (f (lt_of_not-le h))

-- WHAT IS WORKED OUT of a whole draft's old notes, said of its inputs
module _ (d : List ℕ) (whole : has_length d ≡ true) where
  abbrev w : List ℕ
  w = written d

  back : SameInputs w d
  back = inputs_back d whole

  due_nullifiers : ForBoth (λ i. nullifier_of i w ≡ due_nullifier i d)
  unfolding old_key_of old_rho_of is_input is_worked_out
  due_nullifiers = ((all_right d whole).nullifiers.0 ∙ simp back.inputs, (all_right d whole).nullifiers.1 ∙ simp back.inputs)

  due_addresses : ForBoth (λ i. old_address_of i w ≡ address_from (old_key_of i d))
  unfolding old_key_of is_input is_worked_out
  due_addresses = ((all_right d whole).addresses.0 ∙ simp back.inputs, (all_right d whole).addresses.1 ∙ simp back.inputs)

-- THE REFUSALS, with 7 and 10 said of the inputs
abbrev strays_due : List ℕ → ℕ → Bool
strays_due d i = ends_elsewhere (old_value_of i d) (path_end (due_note i d) (old_position_of i d) (old_path_of i d)) (anchor_of d)

abbrev said : List ℕ → ℕ → List (List Rule)
said d n =
    lengths1 d n ∷ no4 d ∷ no5 d ∷ (rule (same (due_nullifier 1 d) (due_nullifier 2 d)) 7 0 ∷ []) ∷ no9 d ∷ for_each (strays_due d) 10 ∷ no11 d ∷ []

module _ (d : List ℕ) (n : ℕ) where
  said_whole : has_length d ≡ true → desk_refusals d n ≡ said d n
  unfolding desk_refusals notes_refusals no7 no10 strays_of path_end_of old_commitment_of anchor_of old_value_of old_rho_of old_trapdoor_of old_position_of old_path_of is_input is_worked_out
  said_whole whole =
      let k = kept_nullifiers d whole in
      let a = kept_addresses d whole in
      simp ((old_notes_back d whole).inputs, sym k.0 ∙ (due_nullifiers d whole).0, sym k.1 ∙ (due_nullifiers d whole).1, sym a.0 ∙ (due_addresses d whole).0, sym a.1 ∙ (due_addresses d whole).1)

  said_answer : desk_answer d n ≡ first (rules_in (said d n))
  unfolding desk_answer lengths1 rules_in first
  said_answer =
      by_test (one_length d n)
      (λ h. ap (λ (g : List (List Rule)). first (rules_in g)) (said_whole (passed_1 d n h).0))
      (λ h. refused_1 d n h ∙ rw h)

  whole_and_long : Tells (one_length d n) (IsWhole d × (n ≡ length d))
  unfolding one_length
  whole_and_long = tells_both (two_lengths d) tells_equal

  rows_told : Agree (rules_in (said d n)) (desk_sentences d n)
  unfolding rules_in desk_sentences lengths1 no4 no5 no9 no11 both_public above_money has_top_bits out_of_range ends_elsewhere unbalanced range_of unbalanced_of
  rows_told =
      tells_not whole_and_long
      & tells_both (tells_not tells_equal) (tells_not tells_equal)
      & tells_below
      & tells_below
      & tells_same
      & tells_either tells_above tells_at_most
      & tells_either tells_above tells_at_most
      & tells_above
      & tells_both (tells_not tells_equal) (tells_not tells_same)
      & tells_both (tells_not tells_equal) (tells_not tells_same)
      & tells_either (tells_not tells_equal) tells_below
      & done

  -- each answer is that of the first sentence that holds
  pub desk_answered : AnswersBy (desk_sentences d n) (desk_answer d n)
  unfolding numbered rules_in lengths1 no4 no5 no9 no11
  desk_answered = rw said_answer (answers_by refl rows_told)

  -- a refusal leaves every byte of the buffer; else it is as long as the draft, which is whole, and holds the case
  pub desk_leaves : (b : List ℕ) → length b ≡ n → ((desk_answer d n).number ≡ 0 → ⊥) → buffer_after d b ≡ b
  unfolding buffer_after
  desk_leaves b e h = rw (e, ne_eqb (desk_answer d n).number 0 h)

  pub desk_writes : (b : List ℕ) → length b ≡ n → (desk_answer d n).number ≡ 0 → IsWhole d × ((n ≡ length d) × (buffer_after d b ≡ written d))
  unfolding buffer_after
  desk_writes b e h = by_test (one_length d n)
      (λ o. let p = passed_1 d n o in ((two_lengths d).0 p.0, (p.1, rw (e, eq-eqb (desk_answer d n).number 0 h))))
      (λ o. absurd (omega (arith, ap (λ (a : Answer). a.number) (refused_1 d n o), h)))

-- WHAT IS NOT READ: drafts with the same inputs are answered and written alike, whatever stands where something is worked out
pub not_read : (d e b : List ℕ) → SameInputs d e → (desk_answer d (length b) ≡ desk_answer e (length b)) × (buffer_after d b ≡ buffer_after e b)
not_read d e b agree = (same_desk_answer d e agree (length b), same_buffer d e agree b)

module _ (d : List ℕ) (long : IsWhole d) where
  whole : has_length d ≡ true
  whole = (two_lengths d).1 long

  abbrev c : List ℕ
  c = written d

  -- READ BACK: the case has the draft's inputs
  pub read_back : SameInputs c d
  read_back = inputs_back d whole

  public : (anchor_of c ≡ anchor_of d) × ((vpub_old_of c ≡ vpub_old_of d) × (vpub_new_of c ≡ vpub_new_of d))
  unfolding anchor_of vpub_old_of vpub_new_of is_input is_worked_out
  public = (read_back.inputs anchor_field refl, (ap little (read_back.inputs vpub_old refl), ap little (read_back.inputs vpub_new refl)))

  -- JUDGED ALIKE: a ledger that has nothing against the case answers it as the desk answered the draft, so it accepts what the desk wrote
  pub judged_alike : (t r : List ℕ) (l : Ledger) → Admits d t r l → answer_of c t r l ≡ desk_answer d (length d)
  judged_alike t r l a =
      let p = public in
      let n = due_nullifiers d whole in
      let low : vpub_new_of d ≤ l.pool.0 + vpub_old_of d = not_less _ _ (λ e. a.pool (inl e)) in
      let high : l.pool.0 + vpub_old_of d - vpub_new_of d ≤ max_money = not_less _ _ (λ e. a.pool (inr e)) in
      let own = admits c t r l a.undamaged a.room (rw p.0 a.anchor) (rw n.0 a.unspent.0, rw n.1 a.unspent.1) (rw (p.1.0, p.1.1) low) (rw (p.1.0, p.1.1) (omega arith)) in
      answer_lower c t r l ∙ ap (lower (first (case_refusals c))) own ∙ case_answer d whole

  pub written_accepted : (t r : List ℕ) (l : Ledger) → Admits d t r l → (desk_answer d (length d)).number ≡ 0 → (answer_of c t r l).number ≡ 0
  written_accepted t r l a h = ap (λ (x : Answer). x.number) (judged_alike t r l a) ∙ h

  -- THE ONLY ONE: no other file with these inputs is accepted, by any ledger
  pub only_written : (f t r : List ℕ) (l : Ledger) → SameInputs f d → (answer_of f t r l).number ≡ 0 → f ≡ c
  unfolding h_sig_of
  only_written f t r l agree h =
      let v = (accepted_valid f t r l h).rules in
      let s = v.statement in
      let right : WorkedOut f = record { nullifiers = s.nullifier_integrity; addresses = s.spend_authority; tags = s.non_malleability; rhos = s.uniqueness_of_rho; commitments = s.commitment_integrity } in
      let both : SameInputs f c = record { long = agree.long ∙ sym read_back.long; inputs = λ k i. agree.inputs k i ∙ sym (read_back.inputs k i) } in
      one_file f c both right (all_right d whole) ((two_lengths f).1 v.encoding.whole)

  -- where the desk passes, there is a ledger that admits the case: nothing spent, the anchor alone on its roll, and what the case takes out in its pool
  module _ (h : (desk_answer d (length d)).number ≡ 0) where
    abbrev planted : Ledger
    planted = record { nullifiers = 0; anchors = 1; tree = fresh_of; pool = record { 0 = vpub_new_of d } }

    passes : Clauses c
    passes = accepted_clauses c (ap (λ (x : Answer). x.number) (case_answer d whole) ∙ h)

    money : (vpub_old_of d ≤ max_money) × (vpub_new_of d ≤ max_money)
    money = (rw public.1.0 at passes.old_money, rw public.1.1 at passes.new_money)

    anchor_long : length (anchor_of d) ≡ 32
    unfolding anchor_of part_of lengths description
    anchor_long = field_length _ _ d

    one_row : anchor_rows (anchor_of d) planted ≡ anchor_of d ∷ []
    unfolding anchor_rows rows_of
    one_row = ap (λ (x : List ℕ). x ∷ []) (take_all 32 (anchor_of d) (omega (arith, anchor_long)))

    planted_sound : Sound (zeros 64) (anchor_of d) planted
    unfolding room_in rising spent_rows rows_of fresh_of
    planted_sound =
        record {
          even = refl;
          fits = omega arith;
          rises = refl;
          leaves = refl;
          anchored = λ e. absurd (omega arith);
          roll = rw anchor_long (omega arith);
          pool = money.1;
        }

    planted_admits : Admits d (zeros 64) (anchor_of d) planted
    unfolding room_in spent_rows rows_of
    planted_admits =
        record {
          undamaged = sound_undamaged (zeros 64) (anchor_of d) planted planted_sound;
          room = omega arith;
          anchor = rw one_row (Memᴰ.head refl);
          unspent = (λ m. Memᴰ.not-nil m, λ m. Memᴰ.not-nil m);
          pool = ⊎_elim (λ e. absurd (omega arith)) (λ e. absurd (omega (arith, money.0)));
        }

  -- EXACTLY WHERE THERE IS ONE: the desk writes where some file with these inputs is accepted by some ledger, and refuses where none is
  pub writes_exactly : ((desk_answer d (length d)).number ≡ 0) ↔ Acceptable d
  writes_exactly = (
    λ h. record {
      file = c;
      table = zeros 64;
      roll = anchor_of d;
      ledger = planted h;
      same = read_back;
      accepted = written_accepted (zeros 64) (anchor_of d) (planted h) (planted_admits h) h;
    },
    λ x. let e = only_written x.file x.table x.roll x.ledger x.same x.accepted in
        let a = lower_accepts (first (case_refusals c)) (first (ledgers_own c x.table x.roll x.ledger)) (ap (λ (y : Answer). y.number) (sym (answer_lower c x.table x.roll x.ledger)) ∙ rw e at x.accepted) in
        ap (λ (y : Answer). y.number) (sym (case_answer d whole)) ∙ a.0,
  )
