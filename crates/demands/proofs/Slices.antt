-- REQUEST No. 7, JUDGING IN SHORT SLICES. What a record holds after k steps; that step 60 answers and leaves what the one_call judge would on the ledger lent
-- to it; what the other steps answer and leave; that no step does another's share, for any record; and the same over calls with steps between them.
-- Assumes nothing.
use Prim.Native.Nat.{ℕ, suc, ◌+◌, ◌-◌, ◌<◌, ◌≤◌, min}
use mathlib.Core.Path.{◌≡◌, refl, sym, ap, ap₂, subst, ◌∙◌}
use mathlib.Core.Bool.{true, false, cond}
use mathlib.Core.List.{List, [], ◌∷◌}
use native.Mathlib.Omega.{arith}
use native.Mathlib.Numerals.{add-one}
use borrow.Author.Tests.{eqb-true, eqb-false, eq-eqb, ltb-true, ltb-false}
use lib.Dec.{eqb, ltb}
use lib.ListN.{length}
use Rattle.refusals.specs.declared.Answer.{Answer}
use Rattle.refusals.specs.Rules.{answer, first, rules_in}
use Rattle.refusals.proofs.RuleLaws.{by_test}
use Rattle.units.specs.declared.Which.{Which}
use Rattle.units.specs.declared.Which.TheVariants.{First, Second}
use Rattle.units.specs.Pairs.{number_of}
use Rattle.casefile.specs.Fields.{has_length}
use Rattle.statement.specs.CaseRefusals.{old_commitment_of, path_end_of, no4, no5, no7, witness_refusals, case_refusals}
use Rattle.ledger.specs.declared.Ledger.{Ledger}
use Rattle.ledger.specs.Ledgers.{open_refusals}
use Rattle.judge.specs.Settling.{settled_answer, ledger_after_settling, table_after_settling}
use Rattle.judge.proofs.Settled.{SamePublic, settled_as_judged, ledger_as_judged, table_as_judged, settled_number, settled_public, ledger_public, table_public}
use Rattle.slices.specs.Records.{judgement_length, steps_in, case_in, holds_case, node_in, answer_in, with_case, without_case}
use Rattle.slices.specs.Steps.{not_yet, level_of, parent_on, start_in, climbed_in, alone_refusals, checked_in, settled_by, settled_in, step_answer, record_after_step, table_after_step, ledger_after_step, begin_answer, record_after_begin}
use Rattle.slices.proofs.RecordLaws.{taken_long, taken_steps, taken_case, untaken}
use Rattle.slices.proofs.Levels.{level_first, level_next, level_last}
use Rattle.slices.proofs.Shares.{share_none, share_first, share_second, share_check, share_settle, share_done}
use Rattle.slices.proofs.Witness.{same_steps, same_found, same_holds, same_public}
use Rattle.slices.proofs.StepLaws.{holds_long, climbed_steps, climbed_case, climbed_node, climbed_answer, climbed_first, climbed_second, start_lowest, start_held, checked_steps, checked_case, checked_node, checked_answer, found_own, own_whole, own_no_row, held_number, settled_steps, settled_case, settled_answer_lem, step_long, begin_long}
use Rattle.demands.specs.Histories.{judged, Held, answer_on, held_after, held_after_all, held_at_opening, Shows}
use Rattle.demands.proofs.Calls.{after_append}
use Rattle.demands.proofs.History.{history}
use Rattle.demands.specs.Slices.{step_on, record_on, held_after_step, MadeOf, begun, stepped, HoldsAfter, ClimbsOnly, WitnessAlone, ChangesNothing, Event, whole, begins, steps, Handset, put, handset_after, handset_after_all, Progress, nothing, taken, further, progress_after, progress_after_all, sixtieth, calls_made, all_calls_made, Follows}

-- THE RECORD AFTER A STEP, by its share
module _ (b : List ℕ) (h : Held) (w : holds_case b ≡ true) where
  to_first : steps_in b < 29 → record_on b h ≡ climbed_in 1 (steps_in b) b
  unfolding record_after_step
  to_first n = share_first _ _ _ _ _ b w n

  to_second : 29 ≤ steps_in b → steps_in b < 58 → record_on b h ≡ climbed_in 2 (steps_in b - 29) b
  unfolding record_after_step
  to_second m n = share_second _ _ _ _ _ b w m n

  to_check : steps_in b ≡ 58 → record_on b h ≡ checked_in b
  unfolding record_after_step
  to_check n = share_check _ _ _ _ _ b w n

  to_settle : steps_in b ≡ 59 → record_on b h ≡ settled_in b h.table h.roll h.ledger
  unfolding record_after_step
  to_settle n = share_settle _ _ _ _ _ b w n

  settle_answers : steps_in b ≡ 59 → step_on b h ≡ settled_by b h.table h.roll h.ledger
  unfolding step_answer
  settle_answers n = share_settle _ _ _ _ _ b w n

-- some step was taken
made_some : {c b : List ℕ} {k : ℕ} → MadeOf c k b → 1 ≤ k
made_some (begun b l) = omega arith
made_some (stepped m h) = omega arith

module _ (c : List ℕ) (w : has_length c ≡ true) where
  -- what holds the case holds one
  holding : {k : ℕ} {b : List ℕ} → HoldsAfter c k b → holds_case b ≡ true
  unfolding holds_case
  holding p = ap has_length p.case ∙ w

  -- step 1
  begun_holds : (b : List ℕ) → length b ≡ judgement_length → HoldsAfter c 1 (record_after_begin c b)
  unfolding record_after_begin
  begun_holds b l =
      let x = with_case c b in
      let lx = taken_long b l c w in
      let cx = taken_case b l c w in
      rw (eq-eqb (length b) judgement_length l, w)
      (record {
        case = climbed_case x lx First 0 ∙ cx;
        steps = climbed_steps x lx First 0 ∙ ap (λ (n : ℕ). n + 1) (taken_steps b l c w);
        first_path =
            climbed_node x lx First 0
            ∙ ap₂ (λ (y z : List ℕ). parent_on 0 1 y z) cx (start_lowest x lx First 0 refl ∙ ap (old_commitment_of 1) cx ∙ sym (level_first 1 c))
            ∙ sym (level_next 1 c 0 (omega arith));
        second_path = λ h. absurd (omega arith);
        found = λ h. absurd (omega arith);
      })

  -- steps 2 to 59, from what the record held before
  module _ (k : ℕ) (b : List ℕ) (p : HoldsAfter c k b) (some : 1 ≤ k) (h : Held) where
    abbrev l : length b ≡ judgement_length
    l = holds_long b (holding p)

    first_next : k < 29 → HoldsAfter c (suc k) (record_on b h)
    first_next n =
        let e = p.steps in
        let up : min k 29 ≡ k = omega arith in
        let on : min (suc k) 29 ≡ k + 1 = omega arith in
        rw (to_first b h (holding p) (omega (arith, e)), e)
        (record {
          case = climbed_case b l First k ∙ p.case;
          steps = climbed_steps b l First k ∙ ap (λ (x : ℕ). x + 1) e ∙ add-one k;
          first_path =
              climbed_node b l First k
              ∙ ap₂ (λ (y z : List ℕ). parent_on k 1 y z) p.case (start_held b l First k (λ z. omega (arith, z, some)) ∙ p.first_path ∙ ap (λ (x : ℕ). level_of x 1 c) up)
              ∙ sym (ap (λ (x : ℕ). level_of x 1 c) on ∙ level_next 1 c k n);
          second_path = λ z. absurd (omega (arith, z, n));
          found = λ z. absurd (omega (arith, z, n));
        })

    -- where the second path stands before its next level
    second_start : 29 ≤ k → k < 58 → start_in 2 (k - 29) b ≡ level_of (k - 29) 2 c
    second_start m n =
        by_test (eqb (k - 29) 0)
        (λ e. let z = eqb-true (k - 29) 0 e in
        start_lowest b l Second (k - 29) z ∙ ap (old_commitment_of 2) p.case ∙ sym (ap (λ (x : ℕ). level_of x 2 c) z ∙ level_first 2 c))
        (λ e. let z = eqb-false (k - 29) 0 e in
        let up : min (k - 29) 29 ≡ k - 29 = omega (arith, n) in
        start_held b l Second (k - 29) z ∙ p.second_path (omega (arith, z, m)) ∙ ap (λ (x : ℕ). level_of x 2 c) up)

    second_next : 29 ≤ k → k < 58 → HoldsAfter c (suc k) (record_on b h)
    second_next m n =
        let e = p.steps in
        let top : min k 29 ≡ min (suc k) 29 = omega (arith, m) in
        let on : min (suc k - 29) 29 ≡ (k - 29) + 1 = omega (arith, m, n) in
        rw (to_second b h (holding p) (omega (arith, e, m)) (omega (arith, e, n)), e)
        (record {
          case = climbed_case b l Second (k - 29) ∙ p.case;
          steps = climbed_steps b l Second (k - 29) ∙ ap (λ (x : ℕ). x + 1) e ∙ add-one k;
          first_path = climbed_first b l (k - 29) ∙ p.first_path ∙ ap (λ (x : ℕ). level_of x 1 c) top;
          second_path =
              λ z. climbed_node b l Second (k - 29)
              ∙ ap₂ (λ (x y : List ℕ). parent_on (k - 29) 2 x y) p.case (second_start m n)
              ∙ sym (ap (λ (x : ℕ). level_of x 2 c) on ∙ level_next 2 c (k - 29) (omega (arith, n)));
          found = λ z. absurd (omega (arith, z, n));
        })

    -- both ends are reached
    ends : k ≡ 58 → (i : Which) → node_in (number_of i) b ≡ path_end_of (number_of i) (case_in b)
    ends e First =
        let top : min k 29 ≡ 29 = omega (arith, e) in
        p.first_path ∙ ap (λ (x : ℕ). level_of x 1 c) top ∙ level_last 1 c ∙ sym (ap (path_end_of 1) p.case)
    ends e Second =
        let top : min (k - 29) 29 ≡ 29 = omega (arith, e) in
        p.second_path (omega (arith, e)) ∙ ap (λ (x : ℕ). level_of x 2 c) top ∙ level_last 2 c ∙ sym (ap (path_end_of 2) p.case)

    check_next : k ≡ 58 → HoldsAfter c (suc k) (record_on b h)
    check_next e =
        let top : min k 29 ≡ min (suc k) 29 = omega (arith, e) in
        let both : min (k - 29) 29 ≡ min (suc k - 29) 29 = omega (arith, e) in
        rw (to_check b h (holding p) (p.steps ∙ e))
        (record {
          case = checked_case b l ∙ p.case;
          steps = checked_steps b l ∙ ap suc (sym e);
          first_path = checked_node b l 1 ∙ p.first_path ∙ ap (λ (x : ℕ). level_of x 1 c) top;
          second_path = λ z. checked_node b l 2 ∙ p.second_path (omega (arith, e)) ∙ ap (λ (x : ℕ). level_of x 2 c) both;
          found = λ z. checked_answer b l ∙ found_own b (holding p) (ends e) ∙ ap (λ (x : List ℕ). first (rules_in (no4 x ∷ no5 x ∷ no7 x ∷ witness_refusals x))) p.case;
        })

    step_holds : k < 59 → HoldsAfter c (suc k) (record_on b h)
    step_holds n =
        by_test (ltb k 29)
        (λ e. first_next (ltb-true k 29 e))
        (λ e. by_test (ltb k 58)
        (λ f. second_next (ltb-false k 29 e) (ltb-true k 58 f))
        (λ f. let g = ltb-false k 58 f in check_next (omega (arith, g, n))))

  -- AFTER k STEPS, up to 59
  pub made_holds : {k : ℕ} {b : List ℕ} → MadeOf c k b → k ≤ 59 → HoldsAfter c k b
  made_holds (begun b l) n = begun_holds b l
  made_holds (stepped {k} {b} m h) n = step_holds k b (made_holds m (omega (arith, n))) (made_some m) h (omega (arith, n))

  -- what was found after 59 is the case's own answer
  own_found : {b : List ℕ} → HoldsAfter c 59 b → answer_in b ≡ first (case_refusals c)
  own_found p = p.found refl ∙ own_whole c w

  -- STEP 60: on the ledger that it is lent, what the one_call judge would answer, with its row, and every byte of what it would leave
  pub sixty_answers : {b : List ℕ} → MadeOf c 59 b → (h : Held) → step_on b h ≡ answer_on c h
  unfolding step_answer
  sixty_answers {b} m h =
      let p = made_holds m (omega arith) in
      share_settle _ _ _ _ _ b (holding p) p.steps
      ∙ ap₂ (λ (a : Answer) (x : List ℕ). settled_answer a x h.table h.roll h.ledger) (own_found p) p.case
      ∙ settled_as_judged c h.table h.roll h.ledger

  pub sixty_leaves : {b : List ℕ} → MadeOf c 59 b → (h : Held) → held_after_step b h ≡ held_after (judged c) h
  unfolding table_after_step ledger_after_step held_after
  sixty_leaves {b} m h =
      let p = made_holds m (omega arith) in
      ap₂ (λ (t : List ℕ) (l : Ledger). record { table = t; roll = h.roll; ledger = l })
      (share_settle _ _ _ _ _ b (holding p) p.steps
      ∙ ap₂ (λ (a : Answer) (x : List ℕ). table_after_settling a x h.table h.roll h.ledger) (own_found p) p.case
      ∙ table_as_judged c h.table h.roll h.ledger)
      (share_settle _ _ _ _ _ b (holding p) p.steps
      ∙ ap₂ (λ (a : Answer) (x : List ℕ). ledger_after_settling a x h.table h.roll h.ledger) (own_found p) p.case
      ∙ ledger_as_judged c h.table h.roll h.ledger)

-- A STEP OF ANY RECORD. Where no case is held it is refused with 1, and after the last the answer is repeated; neither changes anything
module _ (b : List ℕ) (h : Held) where
  held_as : {t : List ℕ} {l : Ledger} → t ≡ h.table → l ≡ h.ledger → ◌≡◌ {A = Held} (record { table = t; roll = h.roll; ledger = l }) h
  held_as e f = ap₂ (λ (t : List ℕ) (l : Ledger). record { table = t; roll = h.roll; ledger = l }) e f

  pub none_refused : holds_case b ≡ false → (step_on b h ≡ answer 1 0) × ChangesNothing b h
  unfolding step_answer record_after_step table_after_step ledger_after_step
  none_refused w =
      (share_none _ _ _ _ _ b w, record { same_record = share_none _ _ _ _ _ b w; same_held = held_as (share_none _ _ _ _ _ b w) (share_none _ _ _ _ _ b w) })

  module _ (w : holds_case b ≡ true) where
    pub done_repeats : 60 ≤ steps_in b → (step_on b h ≡ answer_in b) × ChangesNothing b h
    unfolding step_answer record_after_step table_after_step ledger_after_step
    done_repeats n =
        (share_done _ _ _ _ _ b w n, record { same_record = share_done _ _ _ _ _ b w n; same_held = held_as (share_done _ _ _ _ _ b w n) (share_done _ _ _ _ _ b w n) })

    -- before the last it answers "not yet", and leaves the ledger
    first_not_yet : steps_in b < 29 → (step_on b h ≡ not_yet (steps_in b + 1)) × (held_after_step b h ≡ h)
    unfolding step_answer table_after_step ledger_after_step
    first_not_yet n = (share_first _ _ _ _ _ b w n, held_as (share_first _ _ _ _ _ b w n) (share_first _ _ _ _ _ b w n))

    second_not_yet : 29 ≤ steps_in b → steps_in b < 58 → (step_on b h ≡ not_yet (steps_in b + 1)) × (held_after_step b h ≡ h)
    unfolding step_answer table_after_step ledger_after_step
    second_not_yet m n = (share_second _ _ _ _ _ b w m n, held_as (share_second _ _ _ _ _ b w m n) (share_second _ _ _ _ _ b w m n))

    check_not_yet : steps_in b ≡ 58 → (step_on b h ≡ not_yet (steps_in b + 1)) × (held_after_step b h ≡ h)
    unfolding step_answer table_after_step ledger_after_step
    check_not_yet n =
        (share_check _ _ _ _ _ b w n ∙ ap (λ (x : ℕ). not_yet (x + 1)) (sym n), held_as (share_check _ _ _ _ _ b w n) (share_check _ _ _ _ _ b w n))

    pub not_yet_lem : steps_in b < 59 → (step_on b h ≡ not_yet (steps_in b + 1)) × (held_after_step b h ≡ h)
    not_yet_lem n =
        by_test (ltb (steps_in b) 29)
        (λ e. first_not_yet (ltb-true (steps_in b) 29 e))
        (λ e. by_test (ltb (steps_in b) 58)
        (λ f. second_not_yet (ltb-false (steps_in b) 29 e) (ltb-true (steps_in b) 58 f))
        (λ f. let g = ltb-false (steps_in b) 58 f in check_not_yet (omega (arith, g, n))))

    -- NO STEP DOES ANOTHER'S SHARE: climbing steps other than 1 and 30 give the parent of the node held
    abbrev long : length b ≡ judgement_length
    long = holds_long b w

    pub climbs_first : 1 ≤ steps_in b → steps_in b < 29 → ClimbsOnly 1 2 (steps_in b) b (record_on b h)
    climbs_first m n =
        let k = steps_in b in
        rw (to_first b h w n)
        (record {
          node = climbed_node b long First k ∙ ap (parent_on k 1 (case_in b)) (start_held b long First k (λ z. omega (arith, z, m)));
          other = climbed_second b long k;
          case = climbed_case b long First k;
          answer = climbed_answer b long First k;
          steps = climbed_steps b long First k;
        })

    pub climbs_second : 30 ≤ steps_in b → steps_in b < 58 → ClimbsOnly 2 1 (steps_in b - 29) b (record_on b h)
    climbs_second m n =
        let k = steps_in b - 29 in
        rw (to_second b h w (omega (arith, m)) n)
        (record {
          node = climbed_node b long Second k ∙ ap (parent_on k 2 (case_in b)) (start_held b long Second k (λ z. omega (arith, z, m)));
          other = climbed_first b long k;
          case = climbed_case b long Second k;
          answer = climbed_answer b long Second k;
          steps = climbed_steps b long Second k;
        })

    -- 59 judges 10 by the two path ends held, and keeps them
    pub checks_held : steps_in b ≡ 58 → (answer_in (record_on b h) ≡ first (rules_in (alone_refusals b))) × ((i : ℕ) → node_in i (record_on b h) ≡ node_in i b)
    checks_held n = rw (to_check b h w n) (checked_answer b long, λ i. checked_node b long i)

    -- each "not yet" raises the count
    pub raises : steps_in b < 59 → steps_in (record_on b h) ≡ steps_in b + 1
    raises n =
        by_test (ltb (steps_in b) 29)
        (λ e. rw (to_first b h w (ltb-true (steps_in b) 29 e)) (climbed_steps b long First (steps_in b)))
        (λ e. by_test (ltb (steps_in b) 58)
        (λ f. rw (to_second b h w (ltb-false (steps_in b) 29 e) (ltb-true (steps_in b) 58 f)) (climbed_steps b long Second (steps_in b - 29)))
        (λ f. let g : steps_in b ≡ 58 = omega (arith, ltb-false (steps_in b) 58 f, n) in
        rw (to_check b h w g) (checked_steps b long ∙ ap (λ (x : ℕ). x + 1) (sym g))))

-- A CASE OF WRONG LENGTH is refused at step 1, and every later step repeats it
pub first_answers : (c b : List ℕ) → has_length c ≡ true → length b ≡ judgement_length → begin_answer c b ≡ not_yet 1
unfolding begin_answer
first_answers c b w l = rw (eq-eqb (length b) judgement_length l, w)

pub wrong_length_lem : (c b : List ℕ) → has_length c ≡ false → length b ≡ judgement_length → (h : Held)
    → (begin_answer c b ≡ answer 1 0) × ((step_on (record_after_begin c b) h ≡ answer 1 0) × ChangesNothing (record_after_begin c b) h)
unfolding begin_answer record_after_begin
wrong_length_lem c b w l h = rw (eq-eqb (length b) judgement_length l, w) (refl, none_refused (without_case b) h (untaken b l))

-- A STEP AFTER THE LAST repeats what step 60 answered, and changes nothing. So the next one is a step of the same record
pub repeats : (c b : List ℕ) → has_length c ≡ true → MadeOf c 59 b → (h h' : Held) → (step_on (record_on b h) h' ≡ step_on b h) × ChangesNothing (record_on b h) h'
unfolding holds_case
repeats c b w m h h' =
    let p = made_holds c w m (omega arith) in
    let v = holding c w p in
    let long = holds_long b v in
    let no_row : (answer_in b).row.0 ≡ 0 = ap (λ (a : Answer). a.row.0) (p.found refl) ∙ own_no_row c in
    let d = done_repeats (settled_in b h.table h.roll h.ledger) h' (ap has_length (settled_case b h.table h.roll h.ledger long ∙ p.case) ∙ w) (omega (arith, settled_steps b h.table h.roll h.ledger long)) in
    rw (to_settle b h v p.steps)
    (d.0 ∙ settled_answer_lem b h.table h.roll h.ledger long (omega (arith, no_row)) ∙ sym (settle_answers b h v p.steps), d.1)

-- AT MOST 60 STEPS, of any record: while a step answers "not yet", fewer than 59 were taken before it, and it raises the count
pub ends_soon : (b : List ℕ) (h : Held) → (step_on b h).number ≡ 254 → (steps_in b < 59) × (steps_in (record_on b h) ≡ steps_in b + 1)
ends_soon b h n =
    by_test (holds_case b)
    (λ w. by_test (ltb (steps_in b) 59)
    (λ e. let k = ltb-true (steps_in b) 59 e in (k, raises b h w k))
    (λ e. by_test (eqb (steps_in b) 59)
    (λ f. let g = settled_number (answer_in b) (case_in b) h.table h.roll h.ledger (held_number b) in
    let q : (step_on b h).number ≡ (settled_by b h.table h.roll h.ledger).number = ap (λ (a : Answer). a.number) (settle_answers b h w (eqb-true (steps_in b) 59 f)) in
    absurd (omega (arith, g, q, n)))
    (λ f. let g = eqb-false (steps_in b) 59 f in
    let q : (step_on b h).number ≡ (answer_in b).number = ap (λ (a : Answer). a.number) (done_repeats b h w (omega (arith, ltb-false (steps_in b) 59 e, g))).0 in
    absurd (omega (arith, held_number b, q, n)))))
    (λ w. let q : (step_on b h).number ≡ 1 = ap (λ (a : Answer). a.number) (none_refused b h w).0 in
    absurd (omega (arith, q, n)))

-- FROM 60, two records that differ in the witness alone get the same answer and leave the same ledger
module _ (b b' : List ℕ) (s : WitnessAlone b b') (w : holds_case b ≡ true) (n : steps_in b ≡ 59) (h : Held) where
  w' : holds_case b' ≡ true
  w' = same_holds b b' w s.long s.before

  n' : steps_in b' ≡ 59
  n' = sym (same_steps b b' w s.long s.before) ∙ n

  both : answer_in b ≡ answer_in b'
  both = same_found b b' w s.long s.before

  public : SamePublic (case_in b) (case_in b')
  public = same_public b b' w s.long s.before

  pub witness_answer : step_on b h ≡ step_on b' h
  witness_answer =
      settle_answers b h w n
      ∙ settled_public (answer_in b) (case_in b) (case_in b') h.table h.roll h.ledger public
      ∙ ap (λ (a : Answer). settled_answer a (case_in b') h.table h.roll h.ledger) both
      ∙ sym (settle_answers b' h w' n')

  pub witness_ledger : held_after_step b h ≡ held_after_step b' h
  unfolding table_after_step ledger_after_step
  witness_ledger =
      ap₂ (λ (t : List ℕ) (l : Ledger). record { table = t; roll = h.roll; ledger = l })
      (share_settle _ _ _ _ _ b w n
      ∙ table_public (answer_in b) (case_in b) (case_in b') h.table h.roll h.ledger public
      ∙ ap (λ (a : Answer). table_after_settling a (case_in b') h.table h.roll h.ledger) both
      ∙ sym (share_settle _ _ _ _ _ b' w' n'))
      (share_settle _ _ _ _ _ b w n
      ∙ ledger_public (answer_in b) (case_in b) (case_in b') h.table h.roll h.ledger public
      ∙ ap (λ (a : Answer). ledger_after_settling a (case_in b') h.table h.roll h.ledger) both
      ∙ sym (share_settle _ _ _ _ _ b' w' n'))

-- CALLS WITH STEPS BETWEEN THEM. A record stays as far as is said
module _ (j : ℕ) where
  put_there : {A : Type 0} (x : A) (f : ℕ → A) → put j x f j ≡ x
  unfolding put
  put_there x f = rw (eq-eqb j j refl)

  follows_put : (p : Progress) (b : List ℕ) (ps : ℕ → Progress) (bs : ℕ → List ℕ) → Follows p b → ((i : ℕ) → Follows (ps i) (bs i)) → (i : ℕ) → Follows (put j p ps i) (put j b bs i)
  unfolding put
  follows_put p b ps bs f fs i = by_test (eqb i j) (λ e. rw e f) (λ e. rw e (fs i))

follows_as : (b : List ℕ) {p q : Progress} → p ≡ q → Follows p b → Follows q b
follows_as b e f = subst (λ (q : Progress). Follows q b) e f

-- every record that follows is a record
long_of : (q : Progress) (b : List ℕ) → Follows q b → length b ≡ judgement_length
unfolding Follows
long_of nothing b f = f.0
long_of (taken c k) b f = made_long f.1
  where
    made_long : {n : ℕ} {d : List ℕ} → MadeOf c n d → length d ≡ judgement_length
    made_long (begun d l) = begin_long c d ∙ l
    made_long (stepped {b = d} m h) = step_long d h.table h.roll h.ledger ∙ made_long m

-- a judgement begun
without : (c b : List ℕ) → has_length c ≡ false → length b ≡ judgement_length → holds_case (record_after_begin c b) ≡ false
unfolding record_after_begin
without c b w l = rw (eq-eqb (length b) judgement_length l, w) (untaken b l)

begun_follows : (c b : List ℕ) → length b ≡ judgement_length → Follows (cond (has_length c) (taken c 1) nothing) (record_after_begin c b)
unfolding Follows
begun_follows c b l =
    by_test (has_length c)
    (λ w. rw w (w, begun b l))
    (λ w. rw w (begin_long c b ∙ l, without c b w l))

-- a record that step 60 made, and every one after it, has nothing left to do
made_done : {c b : List ℕ} {k : ℕ} → has_length c ≡ true → MadeOf c k b → 60 ≤ k → (holds_case b ≡ true) × (60 ≤ steps_in b)
unfolding holds_case
made_done w (begun b l) n = absurd (omega (arith, n))
made_done {c} w (stepped {k} {b} m h) n =
    by_test (eqb k 59)
    (λ e. let p = made_holds c w (rw (sym (eqb-true k 59 e)) m) (omega arith) in
    let v = holding c w p in
    let long = holds_long b v in
    rw (to_settle b h v p.steps) (ap has_length (settled_case b h.table h.roll h.ledger long ∙ p.case) ∙ w, omega (arith, settled_steps b h.table h.roll h.ledger long)))
    (λ e. let d = made_done w m (omega (arith, n, eqb-false k 59 e)) in
    rw (done_repeats b h d.0 d.1).1.same_record d)

-- a step other than 60 leaves the ledger
not_sixty : (c : List ℕ) (k : ℕ) (b : List ℕ) (h : Held) → has_length c ≡ true → MadeOf c k b → (k ≡ 59 → ⊥) → held_after_step b h ≡ h
not_sixty c k b h w m n =
    by_test (ltb k 59)
    (λ e. let p = made_holds c w m (omega (arith, ltb-true k 59 e)) in (not_yet_lem b h (holding c w p) (omega (arith, p.steps, ltb-true k 59 e))).1)
    (λ e. let d = made_done w m (omega (arith, n, ltb-false k 59 e)) in (done_repeats b h d.0 d.1).1.same_held)

-- one step
one_step : (q : Progress) (b : List ℕ) (h : Held) → Follows q b → (held_after_step b h ≡ held_after_all (sixtieth q) h) × Follows (further q) (record_on b h)
unfolding Follows held_after_all
one_step nothing b h f =
    let r = (none_refused b h f.1).1 in
    (r.same_held, rw r.same_record f)
one_step (taken c k) b h f =
    by_test (eqb k 59)
    (λ e. let m : MadeOf c 59 b = rw (sym (eqb-true k 59 e)) f.1 in (rw e (sixty_leaves c f.0 m h), (f.0, stepped f.1 h)))
    (λ e. (rw e (not_sixty c k b h f.0 f.1 (eqb-false k 59 e)), (f.0, stepped f.1 h)))

-- the ledger after one event is that after the calls that it is
one_event : (e : Event) (p : ℕ → Progress) (x : Handset) → ((j : ℕ) → Follows (p j) (x.records j))
    → ((handset_after e x).held ≡ held_after_all (calls_made e p) x.held) × ((j : ℕ) → Follows (progress_after e p j) ((handset_after e x).records j))
unfolding handset_after calls_made progress_after held_after_all
one_event (whole y) p x f = (refl, f)
one_event (begins j c) p x f = (refl, follows_put j _ _ p x.records (begun_follows c (x.records j) (long_of (p j) (x.records j) (f j))) f)
one_event (steps j) p x f =
    let s = one_step (p j) (x.records j) x.held (f j) in
    (s.0, follows_put j _ _ p x.records s.1 f)

-- THE THEOREM: after any events the ledger is what it is after the calls that they are, and each record is as far as is said
pub interleaved : (es : List Event) (p : ℕ → Progress) (x : Handset) → ((j : ℕ) → Follows (p j) (x.records j))
    → ((handset_after_all es x).held ≡ held_after_all (all_calls_made es p) x.held) × ((j : ℕ) → Follows (progress_after_all es p j) ((handset_after_all es x).records j))
unfolding handset_after_all all_calls_made progress_after_all held_after_all
interleaved [] p x f = (refl, f)
interleaved (e ∷ es) p x f =
    let o = one_event e p x f in
    let r = interleaved es (progress_after e p) (handset_after e x) o.1 in
    (r.0 ∙ ap (held_after_all (all_calls_made es (progress_after e p))) o.0 ∙ sym (after_append (calls_made e p) (all_calls_made es (progress_after e p)) x.held), r.1)

-- so step 60 between other events answers as the judge would after these calls
pub sixty_between : (es : List Event) (p : ℕ → Progress) (x : Handset) → ((j : ℕ) → Follows (p j) (x.records j)) → (j : ℕ) (c : List ℕ) → progress_after_all es p j ≡ taken c 59
    → step_on ((handset_after_all es x).records j) (handset_after_all es x).held ≡ answer_on c (held_after_all (all_calls_made es p) x.held)
unfolding Follows
sixty_between es p x f j c e =
    let r = interleaved es p x f in
    let m = follows_as ((handset_after_all es x).records j) e (r.1 j) in
    sixty_answers c m.0 m.1 (handset_after_all es x).held ∙ ap (answer_on c) r.0

-- FROM A FRESH LEDGER: with judgements in steps among the calls, what is held still shows what has happened by the rules, and nothing else
pub sliced_history : (es : List Event) (t r : List ℕ) (bs : ℕ → List ℕ) (o : (first (open_refusals r)).number ≡ 0) → ((j : ℕ) → Follows nothing (bs j))
    → Shows (handset_after_all es (record { held = held_at_opening t r; records = bs })).held (history (all_calls_made es (λ j. nothing)) t r o).past
sliced_history es t r bs o f =
    let past = history (all_calls_made es (λ j. nothing)) t r o in
    subst (λ (h : Held). Shows h past.past) (sym (interleaved es (λ j. nothing) (record { held = held_at_opening t r; records = bs }) f).0) past.shows
