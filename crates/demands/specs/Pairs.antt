-- Two cases, judged one right after the other on one ledger, as the third demand speaks of them. What is said of them is the same when they change
-- places.
-- Assumes nothing.
use Rattle.std.specs.Prelude.{ℕ, ◌+◌, ◌<◌, ◌≤◌, ◌≡◌, ◌⊎◌, true, cond, length}
use mathlib.Core.List.{List, ◌++◌, Memᴰ}
use Rattle.units.specs.Limits.{max_money}
use Rattle.units.specs.Pairs.{ForBoth}
use Rattle.refusals.specs.Rules.{answer, without_row, accepted}
use Rattle.casefile.specs.Fields.{has_length, vpub_old_of, vpub_new_of, nullifier_of}
use Rattle.tree.specs.Record.{grown}
use Rattle.ledger.specs.Ledgers.{most_nullifiers, room_in}
use Rattle.demands.specs.Refusals.{OutOfBounds}
use Rattle.demands.specs.Histories.{judged, Held, spent_in, held_after, answer_on, ValidOn, commitments_of}

-- they share no nullifier; a file of the wrong length has none
abbrev pub ShareNone : List ℕ → List ℕ → Type 0
ShareNone c d = has_length c ≡ true → has_length d ≡ true → ForBoth (λ i. ForBoth (λ j. nullifier_of i c ≡ nullifier_of j d → ⊥))

-- x is one of c's nullifiers, and some nullifier of d is
abbrev pub IsOneOf : List ℕ → List ℕ → Type 0
IsOneOf c x = (nullifier_of 1 c ≡ x) ⊎ (nullifier_of 2 c ≡ x)

abbrev pub ShareSome : List ℕ → List ℕ → Type 0
ShareSome c d = IsOneOf c (nullifier_of 1 d) ⊎ IsOneOf c (nullifier_of 2 d)

-- the lowest place of d whose nullifier is one of c's
pub data LowestShared (c d : List ℕ) : ℕ → Type 0 where
  at_1 : IsOneOf c (nullifier_of 1 d) → LowestShared c d 1
  at_2 : (IsOneOf c (nullifier_of 1 d) → ⊥) → IsOneOf c (nullifier_of 2 d) → LowestShared c d 2

-- the table has two free rows for each
abbrev pub RoomForTwo : Held → Type 0
RoomForTwo b = b.ledger.nullifiers + 4 ≤ room_in most_nullifiers (length b.table)

-- what a case asks to put into the pool and to take out of it, whether it is accepted or not; a file of the wrong length asks for nothing
abbrev pub put_in : List ℕ → ℕ
put_in c = cond (has_length c) (vpub_old_of c) 0

abbrev pub taken_out : List ℕ → ℕ
taken_out c = cond (has_length c) (vpub_new_of c) 0

-- a pool with so much put in and so much taken out is from zero to all money
abbrev pub InBounds : ℕ → ℕ → ℕ → Type 0
InBounds pool put taken = (taken ≤ pool + put) × (pool + put ≤ taken + max_money)

-- the pool stays in its bounds with the change that either asks for, taken alone, and with both
pub record PoolForTwo (c d : List ℕ) (b : Held) : Type 0 where
  pub with_c : InBounds b.ledger.pool.0 (put_in c) (taken_out c)
  pub with_d : InBounds b.ledger.pool.0 (put_in d) (taken_out d)
  pub with_both : InBounds b.ledger.pool.0 (put_in c + put_in d) (taken_out c + taken_out d)

-- what these three premises come to, of a ledger that c has been entered in: refusal 3 does not apply, and refusals 8 and 17 do not apply to d
abbrev pub HasRoom : Held → Type 0
HasRoom b = room_in most_nullifiers (length b.table) < b.ledger.nullifiers + 2 → ⊥

abbrev pub NoneSpent : List ℕ → Held → Type 0
NoneSpent d b = ForBoth (λ i. Memᴰ (nullifier_of i d) (spent_in b) → ⊥)

abbrev pub PoolTakes : List ℕ → Held → Type 0
PoolTakes d b = OutOfBounds d b.ledger → ⊥

-- what is held after c and then d
abbrev pub after_both : List ℕ → List ℕ → Held → Held
after_both c d b = held_after (judged d) (held_after (judged c) b)

-- THE SAME END: the bytes of table and roll, the counts and the pool. To the record that both orders began with the one adds c's commitments and then
-- d's, the other d's and then c's
pub record SameEnd (c d : List ℕ) (b : Held) : Type 0 where
  pub table : (after_both c d b).table ≡ (after_both d c b).table
  pub roll : (after_both c d b).roll ≡ (after_both d c b).roll
  pub nullifiers : (after_both c d b).ledger.nullifiers ≡ (after_both d c b).ledger.nullifiers
  pub anchors : (after_both c d b).ledger.anchors ≡ (after_both d c b).ledger.anchors
  pub pool : (after_both c d b).ledger.pool.0 ≡ (after_both d c b).ledger.pool.0
  pub tree_c_d : (after_both c d b).ledger.tree ≡ grown b.ledger.tree (commitments_of c ++ commitments_of d)
  pub tree_d_c : (after_both d c b).ledger.tree ≡ grown b.ledger.tree (commitments_of d ++ commitments_of c)

-- both are accepted, in either order, and end alike
pub record BothPass (c d : List ℕ) (b : Held) : Type 0 where
  pub c_first : answer_on c b ≡ accepted
  pub then_d : answer_on d (held_after (judged c) b) ≡ accepted
  pub d_first : answer_on d b ≡ accepted
  pub then_c : answer_on c (held_after (judged d) b) ≡ accepted
  pub same_end : SameEnd c d b

-- THE ORDER DOES NOT MATTER: to be first is to be alone, and the second is answered as if it were first, by number and place; two that are valid both
-- pass. The row of a nullifier that was spent before is no part of this: the first case may have moved it
pub record OrderFree (c d : List ℕ) (b : Held) : Type 0 where
  pub c_second : without_row (answer_on c (held_after (judged d) b)) ≡ without_row (answer_on c b)
  pub d_second : without_row (answer_on d (held_after (judged c) b)) ≡ without_row (answer_on d b)
  pub both : ValidOn c b → ValidOn d b → BothPass c d b

-- ONE OF TWO: c passes, and d after it is refused with 8, at its lowest place that c spent. The pool is asked about after that, so nothing is premised of it
pub record OneOfTwo (c d : List ℕ) (b : Held) : Type 0 where
  pub c_passes : answer_on c b ≡ accepted
  pub place : ℕ
  pub lowest : LowestShared c d place
  pub d_refused : without_row (answer_on d (held_after (judged c) b)) ≡ answer 8 place
