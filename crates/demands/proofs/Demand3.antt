-- THE THIRD DEMAND: two cases, judged one right after the other on a ledger that has room for both. Where they have no nullifier in common, and the pool
-- stays in its bounds with the change that either asks for and with both, each is answered as if the other were not there, and two that are valid both pass
-- and end alike in either order. Where they have one in common and each is valid, only the earlier one passes: the later is refused with 8, whatever the
-- pool.
-- Assumes nothing.
use Prim.Native.Nat.{ℕ, ◌+◌, ◌≤◌}
use mathlib.Core.Path.{◌≡◌, refl, sym, ap, ap₂, ◌∙◌}
use mathlib.Core.Logic.{◌⊎◌, inl, inr, ⊎_elim}
use mathlib.Core.Bool.{true, false}
use mathlib.Core.List.{List}
use native.Mathlib.Omega.{arith}
use borrow.Author.Tests.{eqb-true, le-ltb}
use lib.Dec.{ltb}
use lib.ListN.{length}
use Rattle.octets.specs.Parts.{same}
use Rattle.octets.specs.Rows.{Long}
use Rattle.octets.proofs.PartLaws.{same_eq}
use Rattle.refusals.specs.declared.Answer.{Answer}
use Rattle.refusals.specs.Rules.{Rule, answer, without_row, accepted, is_accepted, first, rules_in, lower}
use Rattle.refusals.proofs.RuleLaws.{by_test}
use Rattle.refusals.proofs.TwoTables.{lower_accepts}
use Rattle.refusals.proofs.AnswerRows.{without_rows, without_first, without_lower}
use Rattle.casefile.specs.Fields.{has_length, vpub_old_of, vpub_new_of, anchor_of, nullifier_of, commitment_of}
use Rattle.statement.specs.CaseRefusals.{no1, case_refusals}
use Rattle.statement.proofs.Clauses.{unlike, accepted_clauses, clauses_accepted}
use Rattle.ledger.specs.declared.Ledger.{Ledger}
use Rattle.ledger.specs.Rows.{among, table_with_two}
use Rattle.ledger.specs.Ledgers.{most_nullifiers, room_in, spent_rows, anchor_rows, outside, damaged, no2, no3, no6, no8, no17, ledger_refusals, entered_of}
use Rattle.ledger.proofs.Soundness.{sound_undamaged, among_member, member_among, within}
use Rattle.ledger.proofs.Pools.{inside}
use Rattle.ledger.proofs.Entering.{same_count, same_anchors, one_record}
use Rattle.ledger.proofs.TableLaws.{either_order}
use Rattle.judge.specs.Judging.{judge_refusals, ledgers_own, answer_of, ledger_after_case, table_after_case}
use Rattle.judge.proofs.Halves.{answer_lower}
use Rattle.judge.proofs.Outcomes.{refused_ledger, refused_table}
use Rattle.demands.specs.Histories.{judged, Held, held_after, answer_on, ValidOn}
use Rattle.demands.specs.Pairs.{ShareNone, IsOneOf, ShareSome, at_1, at_2, RoomForTwo, PoolForTwo, SameEnd, OrderFree, OneOfTwo}
use Rattle.demands.proofs.Demand2.{accepted_valid, valid_accepted}
use Rattle.demands.proofs.OneCase.{sound_before, ready_before, table_is, ledger_is, length_then, pool_then, sound_then, other_then, own_then, nullifier_long}

-- a file of the wrong length is refused with 1 by any ledger
wrong_length_lem : (d t r : List ℕ) (l : Ledger) → has_length d ≡ false → answer_of d t r l ≡ answer 1 0
unfolding answer_of judge_refusals rules_in first no1
wrong_length_lem d t r l h = rw h

-- an accepted case has the right length
right_length : (c t r : List ℕ) (l : Ledger) → (answer_of c t r l).number ≡ 0 → has_length c ≡ true
right_length c t r l h =
    by_test (has_length c) (λ e. e) (λ e. let z : ◌≡◌ {A = ℕ} 1 0 = ap (λ (a : Answer). a.number) (sym (wrong_length_lem c t r l e)) ∙ h in absurd (omega arith))

-- number and place are those that the rules give without a row
by_rules : (d t r : List ℕ) (l : Ledger)
    → without_row (answer_of d t r l) ≡ lower (without_row (first (case_refusals d))) (first (without_rows (ledgers_own d t r l)))
by_rules d t r l =
    let rules = ledgers_own d t r l in
    ap without_row (answer_lower d t r l) ∙ without_lower (first (case_refusals d)) (first rules) ∙ ap (lower (without_row (first (case_refusals d)))) (without_first rules)

-- EACH GETS THE ANSWER IT WOULD GET ALONE: d after c, and d alone
module _ (c d t r : List ℕ) (l : Ledger) (room : l.nullifiers + 4 ≤ room_in most_nullifiers (length t)) where
  abbrev t' : List ℕ
  t' = table_after_case c t r l

  abbrev l' : Ledger
  l' = ledger_after_case c t r l

  abbrev PoolFor : Type 0
  PoolFor = PoolForTwo c d (record { table = t; roll = r; ledger = l })

  module _ (h : (answer_of c t r l).number ≡ 0) where
    -- what c leaves to be asked of d
    still_sound : damaged t' r l' ≡ false
    still_sound = sound_undamaged t' r l' (sound_then c t r l h)

    was_sound : damaged t r l ≡ false
    was_sound = sound_undamaged t r l (sound_before c t r l h)

    count_then : l'.nullifiers ≡ l.nullifiers + 2
    unfolding entered_of
    count_then = ap (λ (m : Ledger). m.nullifiers) (ledger_is c t r l h)

    anchors_then : l'.anchors ≡ l.anchors
    unfolding entered_of
    anchors_then = ap (λ (m : Ledger). m.anchors) (ledger_is c t r l h)

    still_room : ltb (room_in most_nullifiers (length t')) (l'.nullifiers + 2) ≡ false
    still_room = le-ltb (room_in most_nullifiers (length t')) (l'.nullifiers + 2) (rw (length_then c t r l h, count_then) (omega arith))

    had_room : ltb (room_in most_nullifiers (length t)) (l.nullifiers + 2) ≡ false
    had_room = le-ltb (room_in most_nullifiers (length t)) (l.nullifiers + 2) (omega arith)

    same_roll : anchor_rows r l' ≡ anchor_rows r l
    unfolding anchor_rows
    same_roll = rw anchors_then

    unshared : ShareNone c d → has_length d ≡ true → (among (nullifier_of 1 d) (spent_rows t' l') ≡ among (nullifier_of 1 d) (spent_rows t l)) × (among (nullifier_of 2 d) (spent_rows t' l') ≡ among (nullifier_of 2 d) (spent_rows t l))
    unshared none e =
        let n = none (right_length c t r l h) e in
        (other_then c t r l h (nullifier_of 1 d) (unlike.1 n.0.0) (unlike.1 n.1.0), other_then c t r l h (nullifier_of 2 d) (unlike.1 n.0.1) (unlike.1 n.1.1))

    -- the pool takes d's change after c's, and took it before
    still_inside : PoolFor → has_length d ≡ true → outside l'.pool.0 (vpub_old_of d) (vpub_new_of d) ≡ false
    still_inside pool e =
        let both = rw (right_length c t r l h, e) at pool.with_both in
        let moved = pool_then c t r l h in
        inside l'.pool.0 (vpub_old_of d) (vpub_new_of d) (omega (arith, both.0)) (omega (arith, both.1))

    was_inside : PoolFor → has_length d ≡ true → outside l.pool.0 (vpub_old_of d) (vpub_new_of d) ≡ false
    was_inside pool e =
        let one = rw e at pool.with_d in
        inside l.pool.0 (vpub_old_of d) (vpub_new_of d) one.0 one.1

    ledger_same : ShareNone c d → PoolFor → has_length d ≡ true
        → without_rows (ledgers_own d t' r l') ≡ without_rows (ledgers_own d t r l)
    unfolding without_rows ledger_refusals rules_in no2 no3 no6 no8 no17
    ledger_same none pool e =
        let u = unshared none e in
        rw (still_sound, was_sound, still_room, had_room, same_roll, u.0, u.1, still_inside pool e, was_inside pool e)

  alone : ShareNone c d → PoolFor → without_row (answer_of d t' r l') ≡ without_row (answer_of d t r l)
  alone none pool =
      by_test (is_accepted (answer_of c t r l))
      (λ e. accepted_first (eqb-true (answer_of c t r l).number 0 e))
      (λ e. ap₂ (λ (u : List ℕ) (m : Ledger). without_row (answer_of d u r m)) (refused_table c t r l e) (refused_ledger c t r l e))
    where
      accepted_first : (answer_of c t r l).number ≡ 0 → without_row (answer_of d t' r l') ≡ without_row (answer_of d t r l)
      accepted_first h =
          by_test (has_length d)
          (λ e. by_rules d t' r l' ∙ ap (λ (rules : List Rule). lower (without_row (first (case_refusals d))) (first rules)) (ledger_same h none pool e) ∙ sym (by_rules d t r l))
          (λ e. ap without_row (wrong_length_lem d t' r l' e ∙ sym (wrong_length_lem d t r l e)))

  -- A NULLIFIER IN COMMON: of two that would each pass, the later one is refused with 8, at its lowest place that was spent
  module _ (h : (answer_of c t r l).number ≡ 0) (k : (answer_of d t r l).number ≡ 0) where
    own_passes : first (case_refusals d) ≡ answer 0 0
    own_passes =
        clauses_accepted d
        (accepted_clauses d
        (lower_accepts (first (case_refusals d)) (first (ledgers_own d t r l)) (ap (λ (a : Answer). a.number) (sym (answer_lower d t r l)) ∙ k)).0)

    anchored : among (anchor_of d) (anchor_rows r l') ≡ true
    anchored = rw (same_roll h) (member_among (anchor_of d) (anchor_rows r l) (accepted_valid d t r l k).rules.anchor)

    spent_first : among (nullifier_of 1 d) (spent_rows t' l') ≡ true → without_row (answer_of d t' r l') ≡ answer 8 1
    unfolding ledger_refusals rules_in no2 no3 no6 no8 no17 first
    spent_first e = ap without_row (answer_lower d t' r l') ∙ rw (own_passes, still_sound h, still_room h, anchored, e)

    spent_second : among (nullifier_of 1 d) (spent_rows t' l') ≡ false → among (nullifier_of 2 d) (spent_rows t' l') ≡ true → without_row (answer_of d t' r l') ≡ answer 8 2
    unfolding ledger_refusals rules_in no2 no3 no6 no8 no17 first
    spent_second e f = ap without_row (answer_lower d t' r l') ∙ rw (own_passes, still_sound h, still_room h, anchored, e, f)

    -- the nullifier of d at place 1 is one of c's
    refused_at_1 : (nullifier_of 1 c ≡ nullifier_of 1 d) ⊎ (nullifier_of 2 c ≡ nullifier_of 1 d) → without_row (answer_of d t' r l') ≡ answer 8 1
    refused_at_1 s =
        let own = own_then c t r l h in
        spent_first (⊎_elim (λ (e : nullifier_of 1 c ≡ nullifier_of 1 d). rw (sym e) own.0) (λ (e : nullifier_of 2 c ≡ nullifier_of 1 d). rw (sym e) own.1) s)

    -- the one at place 1 is not, and the one at place 2 is
    refused_at_2 : (nullifier_of 1 c ≡ nullifier_of 1 d → ⊥) → (nullifier_of 2 c ≡ nullifier_of 1 d → ⊥) → (nullifier_of 1 c ≡ nullifier_of 2 d) ⊎ (nullifier_of 2 c ≡ nullifier_of 2 d)
        → without_row (answer_of d t' r l') ≡ answer 8 2
    refused_at_2 p q s =
        let own = own_then c t r l h in
        let unspent = (accepted_valid d t r l k).rules.unspent.0 in
        let before : among (nullifier_of 1 d) (spent_rows t l) ≡ false = by_test (among (nullifier_of 1 d) (spent_rows t l)) (λ e. absurd (unspent (among_member (nullifier_of 1 d) (spent_rows t l) e))) (λ e. e) in
        spent_second (other_then c t r l h (nullifier_of 1 d) (unlike.1 p) (unlike.1 q) ∙ before)
        (⊎_elim (λ (e : nullifier_of 1 c ≡ nullifier_of 2 d). rw (sym e) own.0) (λ (e : nullifier_of 2 c ≡ nullifier_of 2 d). rw (sym e) own.1) s)

    -- c and then d, where they share none
    module _ (none : ShareNone c d) (pool : PoolFor) where
      second_passes : (answer_of d t' r l').number ≡ 0
      second_passes = ap (λ (a : Answer). a.number) (alone none pool) ∙ k

      table_both : table_after_case d t' r l' ≡ table_with_two (l.nullifiers + 2) (table_with_two l.nullifiers t (nullifier_of 1 c) (nullifier_of 2 c)) (nullifier_of 1 d) (nullifier_of 2 d)
      table_both =
          table_is d t' r l' second_passes
          ∙ ap₂ (λ (n : ℕ) (u : List ℕ). table_with_two n u (nullifier_of 1 d) (nullifier_of 2 d)) (count_then h) (table_is c t r l h)

      -- the pool by sums
      pool_both : (ledger_after_case d t' r l').pool.0 + vpub_new_of c + vpub_new_of d ≡ l.pool.0 + vpub_old_of c + vpub_old_of d
      pool_both = omega (arith, pool_then d t' r l' second_passes, pool_then c t r l h)

      ledger_both : ledger_after_case d t' r l' ≡ entered_of (entered_of l (commitment_of 1 c) (commitment_of 2 c) (vpub_old_of c) (vpub_new_of c)) (commitment_of 1 d) (commitment_of 2 d) (vpub_old_of d) (vpub_new_of d)
      ledger_both =
          ledger_is d t' r l' second_passes
          ∙ ap (λ (m : Ledger). entered_of m (commitment_of 1 d) (commitment_of 2 d) (vpub_old_of d) (vpub_new_of d)) (ledger_is c t r l h)

-- two cases that share no nullifier share none when they change places
turned : (c d : List ℕ) → ShareNone c d → ShareNone d c
turned c d none e f =
    let n = none f e in
    ((λ q. n.0.0 (sym q), λ q. n.1.0 (sym q)), (λ q. n.0.1 (sym q), λ q. n.1.1 (sym q)))

-- and the pool stays in its bounds with both
pool_turned : {c d : List ℕ} {b : Held} → PoolForTwo c d b → PoolForTwo d c b
pool_turned p = record { with_c = p.with_d; with_d = p.with_c; with_both = (omega (arith, p.with_both.0), omega (arith, p.with_both.1)) }

passes : (c : List ℕ) (b : Held) → ValidOn c b → (answer_on c b).number ≡ 0
passes c b v = ap (λ (a : Answer). a.number) (valid_accepted c b.table b.roll b.ledger v)

-- a number 0 is a whole acceptance
whole : (c : List ℕ) (b : Held) → (answer_on c b).number ≡ 0 → answer_on c b ≡ accepted
whole c b h = valid_accepted c b.table b.roll b.ledger (accepted_valid c b.table b.roll b.ledger h)

-- BOTH ORDERS END ALIKE
same_end : (c d : List ℕ) (b : Held) → RoomForTwo b → ShareNone c d → PoolForTwo c d b → ValidOn c b → ValidOn d b → SameEnd c d b
unfolding Long held_after
same_end c d b room none fits v w =
    let t = b.table in
    let r = b.roll in
    let l = b.ledger in
    let h = passes c b v in
    let k = passes d b w in
    let cd = ledger_both c d t r l room h k none fits in
    let dc = ledger_both d c t r l room k h (turned c d none) (pool_turned fits) in
    let c1 = commitment_of 1 c in
    let c2 = commitment_of 2 c in
    let d1 = commitment_of 1 d in
    let d2 = commitment_of 2 d in
    let nc = nullifier_long c in
    let nd = nullifier_long d in
    record {
      table =
          table_both c d t r l room h k none fits
          ∙ either_order l.nullifiers t (nullifier_of 1 c) (nullifier_of 2 c) (nullifier_of 1 d) (nullifier_of 2 d) (within (l.nullifiers + 4) most_nullifiers (length t) room) (nc.0, (nc.1, (nd.0, (nd.1, tt)))) (ready_before c t r l h).fresh (ready_before d t r l k).fresh
          ∙ sym (table_both d c t r l room k h (turned c d none) (pool_turned fits));
      roll = refl;
      nullifiers = ap (λ (m : Ledger). m.nullifiers) cd ∙ same_count l c1 c2 (vpub_old_of c) (vpub_new_of c) d1 d2 (vpub_old_of d) (vpub_new_of d) ∙ ap (λ (m : Ledger). m.nullifiers) (sym dc);
      anchors = ap (λ (m : Ledger). m.anchors) cd ∙ same_anchors l c1 c2 (vpub_old_of c) (vpub_new_of c) d1 d2 (vpub_old_of d) (vpub_new_of d) ∙ ap (λ (m : Ledger). m.anchors) (sym dc);
      pool = omega (arith, pool_both c d t r l room h k none fits, pool_both d c t r l room k h (turned c d none) (pool_turned fits));
      tree_c_d = ap (λ (m : Ledger). m.tree) cd ∙ one_record l c1 c2 (vpub_old_of c) (vpub_new_of c) d1 d2 (vpub_old_of d) (vpub_new_of d);
      tree_d_c = ap (λ (m : Ledger). m.tree) dc ∙ one_record l d1 d2 (vpub_old_of d) (vpub_new_of d) c1 c2 (vpub_old_of c) (vpub_new_of c);
    }

-- THE THEOREM
pub order_free : (c d : List ℕ) (b : Held) → RoomForTwo b → ShareNone c d → PoolForTwo c d b → OrderFree c d b
unfolding held_after
order_free c d b room none fits =
    let t = b.table in
    let r = b.roll in
    let l = b.ledger in
    let c_second = alone d c t r l room (turned c d none) (pool_turned fits) in
    let d_second = alone c d t r l room none fits in
    record {
      c_second = c_second;
      d_second = d_second;
      both =
          λ v w.
          let p = valid_accepted c t r l v in
          let q = valid_accepted d t r l w in
          record {
            c_first = p;
            then_d = whole d (held_after (judged c) b) (ap (λ (a : Answer). a.number) (d_second ∙ ap without_row q));
            d_first = q;
            then_c = whole c (held_after (judged d) b) (ap (λ (a : Answer). a.number) (c_second ∙ ap without_row p));
            same_end = same_end c d b room none fits v w;
          };
    }

-- WHICHEVER NULLIFIER THEY SHARE, the earlier one passes and the later is refused, at its lowest place that was spent
one_of : (c x : List ℕ) → IsOneOf c x ⊎ (IsOneOf c x → ⊥)
one_of c x =
    by_test (same (nullifier_of 1 c) x)
    (λ e. inl (inl (same_eq (nullifier_of 1 c) x e)))
    (λ e. by_test (same (nullifier_of 2 c) x) (λ f. inl (inr (same_eq (nullifier_of 2 c) x f))) (λ f. inr (λ s. ⊎_elim (unlike.0 e) (unlike.0 f) s)))

pub shared_refused : (c d : List ℕ) (b : Held) → RoomForTwo b → ValidOn c b → ValidOn d b → ShareSome c d → OneOfTwo c d b
unfolding held_after
shared_refused c d b room v w s = go (one_of c (nullifier_of 1 d)) s
  where
    p : answer_on c b ≡ accepted
    p = valid_accepted c b.table b.roll b.ledger v

    h : (answer_on c b).number ≡ 0
    h = passes c b v

    k : (answer_on d b).number ≡ 0
    k = passes d b w

    go : IsOneOf c (nullifier_of 1 d) ⊎ (IsOneOf c (nullifier_of 1 d) → ⊥) → ShareSome c d → OneOfTwo c d b
    go (inl one) q = record { c_passes = p; place = 1; lowest = at_1 one; d_refused = refused_at_1 c d b.table b.roll b.ledger room h k one }
    go (inr none) (inl one) = absurd (none one)
    go (inr none) (inr two) =
        record { c_passes = p; place = 2; lowest = at_2 none two; d_refused = refused_at_2 c d b.table b.roll b.ledger room h k (λ e. none (inl e)) (λ e. none (inr e)) two }
