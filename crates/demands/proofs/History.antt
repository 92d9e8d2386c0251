-- ANY RUN OF CALLS on a ledger that was opened. By the rules they lead to one past, and what is held shows it; the next case is accepted exactly when it
-- is to be taken after that past. A list of calls is any list, so what holds after all of them holds after each.
-- Assumes nothing.
use Prim.Native.Nat.{ℕ, ◌+◌, ◌*◌, ◌≤◌}
use mathlib.Core.Path.{◌≡◌, refl, sym, ap, ap₂, ◌∙◌}
use mathlib.Core.Logic.Iff
use mathlib.Core.Logic.{⊎_elim}
use mathlib.Core.Bool.{true, false, true≢false}
use mathlib.Core.List.Memᴰ
use mathlib.Core.List.{List, [], ◌∷◌, ◌++◌, Memᴰ}
use native.Mathlib.Omega.{arith}
use borrow.Author.Tests.{eqb-true, eq-eqb, lt-leb}
use lib.ListN.{length, length-append}
use Rattle.octets.specs.Rows.{rows_of, Long}
use Rattle.octets.proofs.PartLaws.{pasted_length}
use Rattle.octets.proofs.RowLaws.{rows_length, long_append}
use Rattle.refusals.specs.declared.Answer.{Answer}
use Rattle.refusals.specs.Rules.{accepted, first, is_accepted, None, rules_in}
use Rattle.refusals.proofs.RuleLaws.{by_test, none_first}
use Rattle.casefile.specs.Fields.{nullifier_of}
use Rattle.nodes.specs.CommitmentTree.{tree_root}
use Rattle.tree.specs.declared.Tree.{Tree}
use Rattle.tree.specs.Record.{fresh_of, grown, record_root}
use Rattle.tree.proofs.Grown.{record_root_lem, root_long, grown_append}
use Rattle.ledger.specs.declared.Ledger.{Ledger}
use Rattle.ledger.specs.Ledgers.{most_nullifiers, most_anchors, room_in, spent_rows, anchor_rows, damaged, no2, close_refusals, empty_ledger, open_refusals}
use Rattle.ledger.proofs.Soundness.{Sound, sound_undamaged, at_most}
use Rattle.ledger.proofs.Endings.{close_passed, close_sound, close_rows, open_roomy, open_passed, open_sound, open_rows}
use Rattle.demands.specs.Validity.{JoinSplitRules}
use Rattle.demands.specs.Histories.{Call, judged, closed, Held, spent_in, anchors_in, answer_on, ValidOn, held_after, held_after_all, held_at_opening, SameMembers, nullifiers_of, commitments_of, Past, fresh_past, with_case, with_block, Taken, RoomForRoot, Leads, no_call, case_taken, case_not_taken, block_closed, block_not_closed, Shows, History, NextCase}
use Rattle.demands.proofs.Demand2.{accepted_valid, valid_accepted}
use Rattle.demands.proofs.OneCase.{commitment_long, sound_then}
use Rattle.demands.proofs.AfterOne.{after_one}
use Rattle.demands.proofs.Calls.{refused_call}

-- two sets that are the same are so with the same rows beside them
with_more : (xs ys rows : List (List ℕ)) → SameMembers xs ys → SameMembers (xs ++ rows) (ys ++ rows)
with_more xs ys rows same z = (go xs ys (same z).0, go ys xs (same z).1)
  where
    go : (us vs : List (List ℕ)) → (Memᴰ z us → Memᴰ z vs) → Memᴰ z (us ++ rows) → Memᴰ z (vs ++ rows)
    go us vs to m =
        ⊎_elim (λ (n : Memᴰ z us). Memᴰ.append_left rows (to n)) (λ (n : Memᴰ z rows). Memᴰ.append_right vs n) (Memᴰ.append_cases us m)

-- the rules look at no more of the nullifiers spent than which they are, and of the pool at no more than what is in it
same_rules : (c : List ℕ) {roots spent : List (List ℕ)} {put taken : ℕ} (roots' spent' : List (List ℕ)) (put' taken' : ℕ)
    → roots ≡ roots' → SameMembers spent spent' → put + taken' ≡ put' + taken
    → JoinSplitRules c roots spent put taken → JoinSplitRules c roots' spent' put' taken'
same_rules c roots' spent' put' taken' e same sums u =
    record {
      encoding = u.encoding;
      public_values = u.public_values;
      anchor = rw e at u.anchor;
      distinct = u.distinct;
      unspent = (λ m. u.unspent.0 ((same (nullifier_of 1 c)).1 m), λ m. u.unspent.1 ((same (nullifier_of 2 c)).1 m));
      statement = u.statement;
      pool_not_negative = omega (arith, u.pool_not_negative);
    }

-- how a closing is answered
abbrev closing_on : Held → Answer
closing_on b = first (close_refusals b.table b.roll b.ledger)

-- no answer both refuses and accepts
not_both : (a : Answer) → is_accepted a ≡ false → a ≡ accepted → ⊥
not_both a h e = true≢false (sym (ap is_accepted e) ∙ h)

-- on a table and a roll of some lengths, which no call changes
module _ (tableLength rollLength : ℕ) where
  -- what every call keeps, from which all that is shown follows
  record Kept (b : Held) (p : Past) : Type 0 where
    sound : Sound b.table b.roll b.ledger
    table_length : length b.table ≡ tableLength
    roll_length : length b.roll ≡ rollLength
    spent : SameMembers (spent_in b) p.spent
    count : b.ledger.nullifiers ≡ length p.leaves
    tree : b.ledger.tree ≡ grown fresh_of p.leaves
    long : Long p.leaves
    anchors : anchors_in b ≡ p.roots
    pool : b.ledger.pool.0 + p.taken ≡ p.put

  module _ (b : Held) (p : Past) (k : Kept b p) where
    -- no more leaves than the table has rows, so the tree's theorem applies
    rooted : record_root b.ledger.tree ≡ tree_root p.leaves
    rooted =
        let few : b.ledger.nullifiers ≤ most_nullifiers = at_most b.ledger.nullifiers most_nullifiers (length b.table) k.sound.fits in
        let e = k.count in
        ap record_root k.tree ∙ record_root_lem p.leaves (omega arith) k.long

    anchor_count : b.ledger.anchors ≡ length p.roots
    unfolding anchor_rows
    anchor_count = sym (rows_length b.ledger.anchors b.roll) ∙ ap length k.anchors

    undamaged_still : damaged b.table b.roll b.ledger ≡ false
    undamaged_still = sound_undamaged b.table b.roll b.ledger k.sound

    shown : Shows b p
    shown =
        record {
          spent = k.spent;
          rises = k.sound.rises;
          spent_count = k.count;
          leaf_count = k.sound.leaves ∙ k.count;
          tree = k.tree;
          root = rooted;
          anchors = k.anchors;
          anchor_count = anchor_count;
          pool = k.pool;
          undamaged = undamaged_still;
        }

    -- A CASE is valid in memory exactly when it is to be taken after the past
    from_memory : (c : List ℕ) → ValidOn c b → Taken tableLength p c
    from_memory c v =
        let room = v.room in
        record {
          valid = same_rules c p.roots p.spent p.put p.taken k.anchors k.spent (omega (arith, k.pool)) v.rules;
          room = rw (k.count, k.table_length) at room;
          bounded = omega (arith, k.pool, v.pool_bounded);
        }

    in_memory : (c : List ℕ) → Taken tableLength p c → ValidOn c b
    in_memory c v =
        record {
          rules = same_rules c (anchors_in b) (spent_in b) b.ledger.pool.0 0 (sym k.anchors) (λ z. Iff.symm (k.spent z)) (omega (arith, k.pool)) v.valid;
          undamaged = undamaged_still;
          room = rw (k.count, k.table_length) v.room;
          pool_bounded = omega (arith, k.pool, v.bounded);
        }

    case_accepted : (c : List ℕ) → (answer_on c b).number ≡ 0 → Taken tableLength p c
    case_accepted c h = from_memory c (accepted_valid c b.table b.roll b.ledger h)

    accepts_case : (c : List ℕ) → Taken tableLength p c → answer_on c b ≡ accepted
    accepts_case c v = valid_accepted c b.table b.roll b.ledger (in_memory c v)

    -- one that was accepted
    case_kept : (c : List ℕ) → (answer_on c b).number ≡ 0 → Kept (held_after (judged c) b) (with_case c p)
    unfolding held_after with_case anchor_rows Long
    case_kept c h =
        let a = after_one c b h in
        let e = k.count in
        record {
          sound = sound_then c b.table b.roll b.ledger h;
          table_length = a.table_length ∙ k.table_length;
          roll_length = k.roll_length;
          spent = λ z. Iff.trans (a.spent z) (with_more (spent_in b) p.spent (nullifiers_of c) k.spent z);
          count = a.count ∙ omega (arith, length-append p.leaves (commitments_of c));
          tree = a.tree ∙ ap (λ (u : Tree). grown u (commitments_of c)) k.tree ∙ sym (grown_append fresh_of p.leaves (commitments_of c));
          long = long_append p.leaves (commitments_of c) k.long ((commitment_long c).0, ((commitment_long c).1, tt));
          anchors = ap (λ (n : ℕ). rows_of n b.roll) a.anchors ∙ k.anchors;
          pool = omega (arith, a.pool, k.pool);
        }

    -- A BLOCK that was closed
    block_kept : is_accepted (closing_on b) ≡ true → Kept (held_after closed b) (with_block p)
    unfolding held_after with_block spent_rows
    block_kept h =
        let passed = close_passed b.table b.roll b.ledger h in
        let e = sym passed.0 in
        record {
          sound = close_sound b.table b.roll b.ledger h k.sound;
          table_length = k.table_length;
          roll_length = ap length (sym passed.1) ∙ pasted_length (b.ledger.anchors * 32) (record_root b.ledger.tree) b.roll ∙ k.roll_length;
          spent = λ z. (λ m. (k.spent z).0 (rw e at m), λ m. rw e ((k.spent z).1 m));
          count = ap (λ (m : Ledger). m.nullifiers) e ∙ k.count;
          tree = ap (λ (m : Ledger). m.tree) e ∙ k.tree;
          long = k.long;
          anchors =
              close_rows b.table b.roll b.ledger h (ap length rooted ∙ root_long p.leaves)
              ∙ ap₂ (λ (rows : List (List ℕ)) (x : List ℕ). rows ++ (x ∷ [])) k.anchors rooted;
          pool = ap (λ (m : Ledger). m.pool.0 + p.taken) e ∙ k.pool;
        }

    -- one is closed where the roll has room
    closes : RoomForRoot rollLength p → closing_on b ≡ accepted
    unfolding None close_refusals rules_in no2
    closes room =
        let n = anchor_count in
        let e = k.roll_length in
        none_first (close_refusals b.table b.roll b.ledger)
        (undamaged_still, (lt-leb (room_in most_anchors (length b.roll)) b.ledger.anchors (rw e (omega arith)), tt))

  -- and nowhere else: a roll that shows the new root had room for it
  had_room : (b : Held) (p : Past) → Kept b (with_block p) → RoomForRoot rollLength p
  unfolding with_block
  had_room b p k =
      let fits = k.sound.roll in
      rw (anchor_count b (with_block p) k, k.roll_length, length-append p.roots (tree_root p.leaves ∷ [])) at fits

  -- ALL CALLS: where they lead, and that it is kept
  record Reached (calls : List Call) (b : Held) (p : Past) : Type 0 where
    past : Past
    leads : Leads tableLength rollLength p calls past
    kept : Kept (held_after_all calls b) past

  reach : (calls : List Call) (b : Held) (p : Past) → Kept b p → Reached calls b p
  unfolding held_after_all
  reach [] b p k = record { past = p; leads = no_call; kept = k }
  reach (judged c ∷ calls) b p k =
      by_test (is_accepted (answer_on c b))
      (λ e.
      let h = eqb-true (answer_on c b).number 0 e in
      let next = reach calls (held_after (judged c) b) (with_case c p) (case_kept b p k c h) in
      record { past = next.past; leads = case_taken (case_accepted b p k c h) next.leads; kept = next.kept })
      (λ e.
      let next = reach calls b p k in
      record {
        past = next.past;
        leads = case_not_taken (λ v. not_both (answer_on c b) e (accepts_case b p k c v)) next.leads;
        kept = rw (refused_call (judged c) b e) next.kept;
      })
  reach (closed ∷ calls) b p k =
      by_test (is_accepted (closing_on b))
      (λ e.
      let kept = block_kept b p k e in
      let next = reach calls (held_after closed b) (with_block p) kept in
      record { past = next.past; leads = block_closed (had_room (held_after closed b) p kept) next.leads; kept = next.kept })
      (λ e.
      let next = reach calls b p k in
      record {
        past = next.past;
        leads = block_not_closed (λ room. not_both (closing_on b) e (closes b p k room)) next.leads;
        kept = rw (refused_call closed b e) next.kept;
      })

  -- ONE PAST: from a past the same calls lead to the same past
  only_one : {p q q' : Past} {calls : List Call} → Leads tableLength rollLength p calls q → Leads tableLength rollLength p calls q' → q ≡ q'
  only_one no_call no_call = refl
  only_one (case_taken v h) (case_taken v' h') = only_one h h'
  only_one (case_taken v h) (case_not_taken why h') = absurd (why v)
  only_one (case_not_taken why h) (case_taken v h') = absurd (why v)
  only_one (case_not_taken why h) (case_not_taken why' h') = only_one h h'
  only_one (block_closed room h) (block_closed room' h') = only_one h h'
  only_one (block_closed room h) (block_not_closed why h') = absurd (why room)
  only_one (block_not_closed why h) (block_closed room h') = absurd (why room)
  only_one (block_not_closed why h) (block_not_closed why' h') = only_one h h'

-- a ledger that was opened
fresh_kept : (t r : List ℕ) → (first (open_refusals r)).number ≡ 0 → Kept (length t) (length r) (held_at_opening t r) fresh_past
unfolding held_at_opening fresh_past spent_rows empty_ledger rows_of grown Long
fresh_kept t r h =
    let yes = eq-eqb (first (open_refusals r)).number 0 h in
    let passed = open_passed r yes in
    let e = sym passed.0 in
    record {
      sound = open_sound t r yes;
      table_length = refl;
      roll_length = ap length (sym passed.1) ∙ pasted_length 0 (tree_root []) r;
      spent = λ z. (λ m. rw e at m, λ m. rw e m);
      count = ap (λ (m : Ledger). m.nullifiers) e;
      tree = ap (λ (m : Ledger). m.tree) e;
      long = tt;
      anchors = open_rows t r yes;
      pool = ap (λ (m : Ledger). m.pool.0 + 0) e;
    }

-- which is any roll that has a row
pub opens : (r : List ℕ) → 32 ≤ length r → (first (open_refusals r)).number ≡ 0
opens r h = ap (λ (a : Answer). a.number) (open_roomy r h)

-- for a table of any bytes and a roll on which a ledger can be opened
module _ (calls : List Call) (t r : List ℕ) (o : (first (open_refusals r)).number ≡ 0) where
  reached : Reached (length t) (length r) calls (held_at_opening t r) fresh_past
  reached = reach (length t) (length r) calls (held_at_opening t r) fresh_past (fresh_kept t r o)

  -- THE THEOREM
  pub history : History calls t r
  history =
      record {
        past = reached.past;
        leads = reached.leads;
        only = λ q h. only_one (length t) (length r) h reached.leads;
        shows = shown (length t) (length r) (held_after_all calls (held_at_opening t r)) reached.past reached.kept;
      }

  -- THE SECOND DEMAND, AFTER A HISTORY
  pub accepted_exactly : (q : Past) → Leads (length t) (length r) fresh_past calls q → (c : List ℕ) → NextCase (length t) (held_after_all calls (held_at_opening t r)) q c
  accepted_exactly q h c =
      let b = held_after_all calls (held_at_opening t r) in
      let k : Kept (length t) (length r) b q = rw (only_one (length t) (length r) h reached.leads) reached.kept in
      let zero : answer_on c b ≡ accepted → (answer_on c b).number ≡ 0 = λ e. ap (λ (a : Answer). a.number) e in
      record {
        exactly =
            (λ e. case_accepted (length t) (length r) b q k c (zero e), λ v. accepts_case (length t) (length r) b q k c v);
        shows = λ e. shown (length t) (length r) (held_after (judged c) b) (with_case c q) (case_kept (length t) (length r) b q k c (zero e));
      }
