-- NO PREMISE OF THE THIRD DEMAND IS STRONGER THAN NEEDED, of two cases that each pass alone. After a case that was accepted, room for two is exactly that
-- refusal 3 does not apply before it nor after it; and of a second case that was valid before it, no nullifier in common is exactly that refusal 8 does not
-- apply after it, and a pool that stays in its bounds exactly that refusal 17 does not.
-- Assumes nothing.
use Prim.Native.Nat.{ℕ, ◌+◌, ◌-◌, ◌≤◌}
use mathlib.Core.Path.{◌≡◌, sym, ap}
use mathlib.Core.Logic.{◌↔◌, ◌⊎◌, inl, inr, ⊎_elim}
use mathlib.Core.Bool.{true, false}
use mathlib.Core.List.Memᴰ
use mathlib.Core.List.{List, Memᴰ}
use native.Mathlib.Nat.{lt_of_not-le}
use native.Mathlib.Decide.{dec_le}
use native.Mathlib.Omega.{arith}
use lib.ListN.{length}
use Rattle.units.specs.Limits.{max_money}
use Rattle.refusals.specs.declared.Answer.{Answer}
use Rattle.refusals.specs.Rules.{accepted}
use Rattle.casefile.specs.Fields.{has_length, vpub_old_of, vpub_new_of, nullifier_of}
use Rattle.casefile.proofs.Editions.{two_lengths}
use Rattle.ledger.specs.Ledgers.{most_nullifiers, room_in}
use Rattle.demands.specs.Histories.{judged, Held, spent_in, held_after, answer_on, ValidOn, nullifiers_of, AfterOne}
use Rattle.demands.specs.Pairs.{ShareNone, RoomForTwo, put_in, taken_out, InBounds, PoolForTwo, HasRoom, NoneSpent, PoolTakes}
use Rattle.demands.proofs.AfterOne.{after_one}
use Rattle.demands.proofs.Demand2.{accepted_valid}

-- a valid case has the length of one
is_long_lem : {b : Held} (c : List ℕ) → ValidOn c b → has_length c ≡ true
is_long_lem c v = (two_lengths c).1 v.rules.encoding.whole

-- WHAT IS ASKED OF THE POOL, of any two cases, accepted or not: each counts with the public values that it has, and a file of the wrong length with none
module _ (c d : List ℕ) (b : Held) where
  pub all_asked : has_length c ≡ true → has_length d ≡ true
      → PoolForTwo c d b
      ↔ (InBounds b.ledger.pool.0 (vpub_old_of c) (vpub_new_of c)
      × InBounds b.ledger.pool.0 (vpub_old_of d) (vpub_new_of d)
      × InBounds b.ledger.pool.0 (vpub_old_of c + vpub_old_of d) (vpub_new_of c + vpub_new_of d))
  all_asked p q = (
    λ f. (rw p at f.with_c, rw q at f.with_d, rw (p, q) at f.with_both),
    λ f. record { with_c = rw p f.0; with_d = rw q f.1; with_both = rw (p, q) f.2 },
  )

  pub none_asked : has_length d ≡ false → PoolForTwo c d b ↔ (InBounds b.ledger.pool.0 (put_in c) (taken_out c) × (b.ledger.pool.0 ≤ max_money))
  none_asked q = (
    λ f. let one = rw q at f.with_d in (f.with_c, omega (arith, one.1)),
    λ f. record { with_c = f.0; with_d = rw q (omega arith, omega (arith, f.1)); with_both = rw q (omega (arith, f.0.0), omega (arith, f.0.1)) },
  )

module _ (c : List ℕ) (b : Held) (h : answer_on c b ≡ accepted) where
  after_c : AfterOne c b (held_after (judged c) b)
  after_c = after_one c b (ap (λ (a : Answer). a.number) h)

  pub room_exactly : RoomForTwo b ↔ (HasRoom b × HasRoom (held_after (judged c) b))
  room_exactly =
      let n = after_c.count in
      let e = ap (room_in most_nullifiers) after_c.table_length in
      (λ l. (λ f. absurd (omega arith), λ f. absurd (omega arith)), λ q. four (dec_le (b.ledger.nullifiers + 4) (room_in most_nullifiers (length b.table))) q.1)
    where
      four : Dec (b.ledger.nullifiers + 4 ≤ room_in most_nullifiers (length b.table)) → HasRoom (held_after (judged c) b) → RoomForTwo b
      four (yes l) q = l
      four (no l) q =
          let n = after_c.count in
          let e = ap (room_in most_nullifiers) after_c.table_length in
          absurd (q (omega (arith, lt_of_not-le l)))

  -- d was valid before c
  module _ (d : List ℕ) (v : ValidOn d b) where
    -- a nullifier of c is spent after it, and what was not spent before is spent only if it is one of c's
    own_spent : (x : List ℕ) → (x ≡ nullifier_of 1 c) ⊎ (x ≡ nullifier_of 2 c) → Memᴰ x (spent_in (held_after (judged c) b))
    own_spent x (inl e) = (after_c.spent x).1 (Memᴰ.append_right (spent_in b) (Memᴰ.head e))
    own_spent x (inr e) = (after_c.spent x).1 (Memᴰ.append_right (spent_in b) (Memᴰ.tail (Memᴰ.head e)))

    only_own : (x : List ℕ) → (Memᴰ x (spent_in b) → ⊥) → Memᴰ x (spent_in (held_after (judged c) b)) → (x ≡ nullifier_of 1 c) ⊎ (x ≡ nullifier_of 2 c)
    only_own x n m =
        ⊎_elim (λ (o : Memᴰ x (spent_in b)). absurd (n o)) (λ (o : Memᴰ x (nullifiers_of c)). ⊎_elim (λ e. inl e) (λ t. inr (Memᴰ.eq_of_singleton t)) (Memᴰ.cases_cons o)) (Memᴰ.append_cases (spent_in b) ((after_c.spent x).0 m))

    pub unshared_exactly : ShareNone c d ↔ NoneSpent d (held_after (judged c) b)
    unshared_exactly = (
      λ none. let n = none (is_long_lem c (accepted_valid c b.table b.roll b.ledger (ap (λ (a : Answer). a.number) h))) (is_long_lem d v) in
          (λ m. ⊎_elim (λ e. n.0.0 (sym e)) (λ e. n.1.0 (sym e)) (only_own (nullifier_of 1 d) v.rules.unspent.0 m), λ m. ⊎_elim (λ e. n.0.1 (sym e)) (λ e. n.1.1 (sym e)) (only_own (nullifier_of 2 d) v.rules.unspent.1 m)),
      λ q hc hd. ((λ e. q.0 (own_spent (nullifier_of 1 d) (inl (sym e))), λ e. q.1 (own_spent (nullifier_of 2 d) (inl (sym e)))), (λ e. q.0 (own_spent (nullifier_of 1 d) (inr (sym e))), λ e. q.1 (own_spent (nullifier_of 2 d) (inr (sym e))))),
    )

    -- both changes together are within the bounds where d's is after c's
    both_within : PoolTakes d (held_after (judged c) b) → InBounds b.ledger.pool.0 (vpub_old_of c + vpub_old_of d) (vpub_new_of c + vpub_new_of d)
    both_within q =
        let then = (held_after (judged c) b).ledger.pool.0 in
        let e : then + vpub_new_of c ≡ b.ledger.pool.0 + vpub_old_of c = after_c.pool in (
          low (dec_le (vpub_new_of d) (then + vpub_old_of d)) e,
          high (dec_le (then + vpub_old_of d - vpub_new_of d) max_money) e,
        )
      where
        low : Dec (vpub_new_of d ≤ (held_after (judged c) b).ledger.pool.0 + vpub_old_of d) → (held_after (judged c) b).ledger.pool.0 + vpub_new_of c ≡ b.ledger.pool.0 + vpub_old_of c
            → vpub_new_of c + vpub_new_of d ≤ b.ledger.pool.0 + (vpub_old_of c + vpub_old_of d)
        low (yes l) e = omega arith
        low (no l) e = absurd (q (inl (lt_of_not-le l)))

        high : Dec ((held_after (judged c) b).ledger.pool.0 + vpub_old_of d - vpub_new_of d ≤ max_money) → (held_after (judged c) b).ledger.pool.0 + vpub_new_of c ≡ b.ledger.pool.0 + vpub_old_of c
            → b.ledger.pool.0 + (vpub_old_of c + vpub_old_of d) ≤ vpub_new_of c + vpub_new_of d + max_money
        high (yes l) e = omega arith
        high (no l) e = absurd (q (inr (lt_of_not-le l)))

    pub pool_exactly : PoolForTwo c d b ↔ PoolTakes d (held_after (judged c) b)
    pool_exactly =
        let w = accepted_valid c b.table b.roll b.ledger (ap (λ (a : Answer). a.number) h) in
        let e = after_c.pool in (
          λ p. let both = rw (is_long_lem c w, is_long_lem d v) at p.with_both in
              ⊎_elim (λ f. absurd (omega (arith, f, both.0))) (λ f. absurd (omega (arith, f, both.1))),
          λ q. record {
            with_c = rw (is_long_lem c w) (omega (arith, w.rules.pool_not_negative), w.pool_bounded);
            with_d = rw (is_long_lem d v) (omega (arith, v.rules.pool_not_negative), v.pool_bounded);
            with_both = rw (is_long_lem c w, is_long_lem d v) (both_within q);
          },
        )
