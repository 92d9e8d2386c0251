-- Calls on a ledger: what is held in memory after them, and, with no table, no roll and no record, what has happened by the rules, in which a case counts
-- because it is valid and not because the judge said so. Then what it means that the one shows the other.
-- Assumes nothing.
use Rattle.std.specs.Prelude.{ℕ, ◌+◌, ◌*◌, ◌≤◌, ◌≡◌, ◌↔◌, true, false, length, drop}
use mathlib.Core.List.{List, [], ◌∷◌, ◌++◌, Memᴰ}
use Rattle.refusals.specs.declared.Answer.{Answer}
use Rattle.refusals.specs.Rules.{accepted}
use Rattle.units.specs.Limits.{max_money}
use Rattle.casefile.specs.Fields.{vpub_old_of, vpub_new_of, nullifier_of, commitment_of}
use Rattle.nodes.specs.CommitmentTree.{tree_root}
use Rattle.tree.specs.Record.{fresh_of, grown, record_root}
use Rattle.ledger.specs.declared.Ledger.{Ledger}
use Rattle.ledger.specs.Sorted.{rising}
use Rattle.ledger.specs.Rows.{byte_order}
use Rattle.ledger.specs.Ledgers.{most_nullifiers, most_anchors, room_in, spent_rows, anchor_rows, damaged, closed_of, roll_after_close, opened_of, roll_after_open}
use Rattle.judge.specs.Judging.{answer_of, ledger_after_case, table_after_case}
use Rattle.demands.specs.Validity.{JoinSplitRules, Valid}

-- THE CALLS: a case judged, by its bytes, or a block closed
pub data Call : Type 0 where
  judged : List ℕ → Call
  closed : Call

-- WHAT IS HELD between two calls: the table's bytes, the roll's, and the ledger
pub record Held : Type 0 where
  pub table : List ℕ
  pub roll : List ℕ
  pub ledger : Ledger

abbrev pub spent_in : Held → List (List ℕ)
spent_in b = spent_rows b.table b.ledger

abbrev pub anchors_in : Held → List (List ℕ)
anchors_in b = anchor_rows b.roll b.ledger

-- how a case is answered on it, and that the case is valid there
abbrev pub answer_on : List ℕ → Held → Answer
answer_on c b = answer_of c b.table b.roll b.ledger

abbrev pub ValidOn : List ℕ → Held → Type 0
ValidOn c b = Valid c b.table b.roll b.ledger

-- what is held after a call, and after some, in order; the judge does not write to the roll, nor closing to the table
unfoldable pub held_after : Call → Held → Held
held_after (judged c) b =
    record {
      table = table_after_case c b.table b.roll b.ledger;
      roll = b.roll;
      ledger = ledger_after_case c b.table b.roll b.ledger;
    }
held_after closed b =
    record {
      table = b.table;
      roll = roll_after_close b.table b.roll b.ledger;
      ledger = closed_of b.table b.roll b.ledger;
    }

unfoldable pub held_after_all : List Call → Held → Held
held_after_all [] b = b
held_after_all (x ∷ xs) b = held_after_all xs (held_after x b)

-- what is held when a ledger was opened, on a table of any bytes and on a roll
unfoldable pub held_at_opening : List ℕ → List ℕ → Held
held_at_opening t r = record { table = t; roll = roll_after_open r; ledger = opened_of r }

-- ONE CASE. Two lists with the same members are the same set
abbrev pub SameMembers : List (List ℕ) → List (List ℕ) → Type 0
SameMembers xs ys = (z : List ℕ) → Memᴰ z xs ↔ Memᴰ z ys

abbrev pub nullifiers_of : List ℕ → List (List ℕ)
nullifiers_of c = nullifier_of 1 c ∷ nullifier_of 2 c ∷ []

abbrev pub commitments_of : List ℕ → List (List ℕ)
commitments_of c = commitment_of 1 c ∷ commitment_of 2 c ∷ []

-- c was accepted on b and left b'. In the table's used rows are those that were there and c's two nullifiers, nothing else, in rising order; the count
-- says so, and what lies behind the rows now in use is as it was. The tree has c's two commitments more. What is in the pool now and what c took out are
-- together what was in it and what c put in. The roll, and its count, are as they were.
pub record AfterOne (c : List ℕ) (b b' : Held) : Type 0 where
  pub spent : SameMembers (spent_in b') (spent_in b ++ nullifiers_of c)
  pub rises : rising byte_order (spent_in b') ≡ true
  pub count : b'.ledger.nullifiers ≡ b.ledger.nullifiers + 2
  pub table_length : length b'.table ≡ length b.table
  pub past_rows : drop ((b.ledger.nullifiers + 2) * 32) b'.table ≡ drop ((b.ledger.nullifiers + 2) * 32) b.table
  pub tree : b'.ledger.tree ≡ grown b.ledger.tree (commitments_of c)
  pub pool : b'.ledger.pool.0 + vpub_new_of c ≡ b.ledger.pool.0 + vpub_old_of c
  pub anchors : b'.ledger.anchors ≡ b.ledger.anchors
  pub roll : b'.roll ≡ b.roll

-- THE PAST, each list in the order in which things came: the nullifiers spent, which are a set to all that follows; the leaves; the root at each closing,
-- behind that of the tree with no leaf; all that was put into the pool, and all that was taken out of it
pub record Past : Type 0 where
  pub spent : List (List ℕ)
  pub leaves : List (List ℕ)
  pub roots : List (List ℕ)
  pub put : ℕ
  pub taken : ℕ

-- no call yet (house: the root of the tree with no leaf may be an anchor)
unfoldable pub fresh_past : Past
fresh_past = record { spent = []; leaves = []; roots = tree_root [] ∷ []; put = 0; taken = 0 }

-- with a case that was taken, and with a block that was closed
unfoldable pub with_case : List ℕ → Past → Past
with_case c p =
    record {
      spent = p.spent ++ nullifiers_of c;
      leaves = p.leaves ++ commitments_of c;
      roots = p.roots;
      put = p.put + vpub_old_of c;
      taken = p.taken + vpub_new_of c;
    }

unfoldable pub with_block : Past → Past
with_block p =
    record { spent = p.spent; leaves = p.leaves; roots = p.roots ++ (tree_root p.leaves ∷ []); put = p.put; taken = p.taken }

-- VALID AFTER A PAST, by the public rules alone
abbrev pub ValidAfter : Past → List ℕ → Type 0
ValidAfter p c = JoinSplitRules c p.roots p.spent p.put p.taken

-- THE HOUSE'S OWN RULES: a table of some length has room for two nullifiers more, where as many were spent as there are leaves; a roll of some length for
-- one root more
abbrev pub RoomForCase : ℕ → Past → Type 0
RoomForCase tableLength p = length p.leaves + 2 ≤ room_in most_nullifiers tableLength

abbrev pub RoomForRoot : ℕ → Past → Type 0
RoomForRoot rollLength p = length p.roots + 1 ≤ room_in most_anchors rollLength

-- THE CLIENT'S OWN RULE: the pool is no more than all money
abbrev pub PoolBounded : Past → List ℕ → Type 0
PoolBounded p c = p.put + vpub_old_of c ≤ p.taken + vpub_new_of c + max_money

-- A CASE IS TAKEN after a past by all of these together
pub record Taken (tableLength : ℕ) (p : Past) (c : List ℕ) : Type 0 where
  pub valid : ValidAfter p c
  pub room : RoomForCase tableLength p
  pub bounded : PoolBounded p c

-- HOW CALLS LEAD from one past to another: a case is taken or not, a block is closed where there is room, and any other call leaves the past as it is. So
-- nothing of a case that was not taken is ever spent
module _ (tableLength rollLength : ℕ) where
  pub data Leads : Past → List Call → Past → Type 0 where
    no_call : {p : Past} → Leads p [] p
    case_taken : {p q : Past} {c : List ℕ} {calls : List Call} → Taken tableLength p c → Leads (with_case c p) calls q → Leads p (judged c ∷ calls) q
    case_not_taken : {p q : Past} {c : List ℕ} {calls : List Call} → (Taken tableLength p c → ⊥) → Leads p calls q → Leads p (judged c ∷ calls) q
    block_closed : {p q : Past} {calls : List Call} → RoomForRoot rollLength p → Leads (with_block p) calls q → Leads p (closed ∷ calls) q
    block_not_closed : {p q : Past} {calls : List Call} → (RoomForRoot rollLength p → ⊥) → Leads p calls q → Leads p (closed ∷ calls) q

  -- how many cases were taken on the way, and how many blocks closed
  unfoldable pub cases_taken : {p q : Past} {calls : List Call} → Leads p calls q → ℕ
  cases_taken no_call = 0
  cases_taken (case_taken v h) = cases_taken h + 1
  cases_taken (case_not_taken why h) = cases_taken h
  cases_taken (block_closed room h) = cases_taken h
  cases_taken (block_not_closed why h) = cases_taken h

  unfoldable pub blocks_closed : {p q : Past} {calls : List Call} → Leads p calls q → ℕ
  blocks_closed no_call = 0
  blocks_closed (case_taken v h) = blocks_closed h
  blocks_closed (case_not_taken why h) = blocks_closed h
  blocks_closed (block_closed room h) = blocks_closed h + 1
  blocks_closed (block_not_closed why h) = blocks_closed h

-- WHAT IS HELD SHOWS A PAST, and nothing else: of nullifiers there are as many as of leaves
pub record Shows (b : Held) (p : Past) : Type 0 where
  pub spent : SameMembers (spent_in b) p.spent
  pub rises : rising byte_order (spent_in b) ≡ true
  pub spent_count : b.ledger.nullifiers ≡ length p.leaves
  pub leaf_count : b.ledger.tree.leaves ≡ length p.leaves
  pub tree : b.ledger.tree ≡ grown fresh_of p.leaves
  pub root : record_root b.ledger.tree ≡ tree_root p.leaves
  pub anchors : anchors_in b ≡ p.roots
  pub anchor_count : b.ledger.anchors ≡ length p.roots
  pub pool : b.ledger.pool.0 + p.taken ≡ p.put
  pub undamaged : damaged b.table b.roll b.ledger ≡ false

-- A HISTORY: some calls on a ledger that was opened lead to one past and to no other, and that is what is held
pub record History (calls : List Call) (t r : List ℕ) : Type 0 where
  pub past : Past
  pub leads : Leads (length t) (length r) fresh_past calls past
  pub only : (q : Past) → Leads (length t) (length r) fresh_past calls q → q ≡ past
  pub shows : Shows (held_after_all calls (held_at_opening t r)) past

-- THE NEXT CASE on what is held after a past: it is accepted exactly when it is to be taken after that past, and then it is part of the past
pub record NextCase (tableLength : ℕ) (b : Held) (p : Past) (c : List ℕ) : Type 0 where
  pub exactly : (answer_on c b ≡ accepted) ↔ Taken tableLength p c
  pub shows : answer_on c b ≡ accepted → Shows (held_after (judged c) b) (with_case c p)

-- THE COUNTS of what is held, after so many cases taken and so many blocks closed: two nullifiers and two leaves for each case, and an anchor for each
-- block beside the first
pub record CountsAfter (b : Held) (cases blocks : ℕ) : Type 0 where
  pub nullifiers : b.ledger.nullifiers ≡ 2 * cases
  pub leaves : b.ledger.tree.leaves ≡ 2 * cases
  pub anchors : b.ledger.anchors ≡ 1 + blocks
