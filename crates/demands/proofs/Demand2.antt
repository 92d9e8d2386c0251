-- THE SECOND DEMAND, on any ledger in memory: a case is accepted exactly when it is Valid.
-- Assumes nothing.
use Prim.Native.Nat.{ℕ, ◌+◌, ◌≤◌}
use mathlib.Core.Path.{◌≡◌, refl, sym, ap, ◌∙◌}
use mathlib.Core.Bool.{true, false, not, false≢true}
use mathlib.Core.List.{List, Memᴰ}
use native.Mathlib.Omega.{arith}
use borrow.Author.Tests.{ltb-false, le-ltb, not-false}
use lib.ListN.{length}
use Rattle.units.specs.Limits.{max_money}
use Rattle.units.specs.Pairs.{ForBoth}
use Rattle.refusals.specs.declared.Answer.{Answer}
use Rattle.refusals.specs.Rules.{Rule, accepted, first, None, rules_in, numbered, lower}
use Rattle.refusals.proofs.RuleLaws.{by_test, first_none, none_first}
use Rattle.refusals.proofs.TwoTables.{lower_accepts}
use Rattle.casefile.specs.Fields.{vpub_old_of, vpub_new_of, anchor_of, nullifier_of}
use Rattle.casefile.proofs.Editions.{two_lengths}
use Rattle.statement.specs.CaseRefusals.{old_commitment_of, path_end_of, h_sig_of, case_refusals}
use Rattle.statement.proofs.Clauses.{Clauses, accepted_clauses, clauses_accepted}
use Rattle.ledger.specs.declared.Ledger.{Ledger}
use Rattle.ledger.specs.Rows.{among}
use Rattle.ledger.specs.Ledgers.{most_nullifiers, room_in, spent_rows, anchor_rows, damaged, no2, no3, no6, no8, no17, ledger_refusals}
use Rattle.ledger.proofs.Soundness.{among_member, member_among}
use Rattle.ledger.proofs.Pools.{inside, not_below, not_above}
use Rattle.judge.specs.Judging.{ledgers_own, answer_of}
use Rattle.judge.proofs.Halves.{answer_lower}
use Rattle.demands.specs.Validity.{Valid}

-- the ledger's own table, and the case's
module _ (c t r : List ℕ) (l : Ledger) where
  abbrev ledgers : List Rule
  ledgers = ledgers_own c t r l

  ledger_numbers : numbered ledgers ≡ true
  unfolding ledger_refusals rules_in numbered no2 no3 no6 no8 no17
  ledger_numbers = refl

  not_among : (x : List ℕ) (rows : List (List ℕ)) → among x rows ≡ false → Memᴰ x rows → ⊥
  not_among x rows h m = false≢true (sym h ∙ member_among x rows m)

  no_member : (x : List ℕ) (rows : List (List ℕ)) → (Memᴰ x rows → ⊥) → among x rows ≡ false
  no_member x rows h = by_test (among x rows) (λ e. absurd (h (among_member x rows e))) (λ e. e)

  -- a case passes the ledger's own table where each of its rules has nothing against it
  pub admits : damaged t r l ≡ false → l.nullifiers + 2 ≤ room_in most_nullifiers (length t) → Memᴰ (anchor_of c) (anchor_rows r l)
      → ForBoth (λ i. Memᴰ (nullifier_of i c) (spent_rows t l) → ⊥)
      → vpub_new_of c ≤ l.pool.0 + vpub_old_of c
      → l.pool.0 + vpub_old_of c ≤ vpub_new_of c + max_money
      → first ledgers ≡ accepted
  unfolding None ledger_refusals rules_in no2 no3 no6 no8 no17
  admits undamaged room anchor unspent low high =
      none_first ledgers
      (undamaged, (le-ltb (room_in most_nullifiers (length t)) (l.nullifiers + 2) room, (ap not (member_among (anchor_of c) (anchor_rows r l) anchor), (no_member (nullifier_of 1 c) (spent_rows t l) unspent.0, (no_member (nullifier_of 2 c) (spent_rows t l) unspent.1, (inside l.pool.0 (vpub_old_of c) (vpub_new_of c) low high, tt))))))

  admits_valid : Valid c t r l → first ledgers ≡ accepted
  admits_valid v =
      admits v.undamaged v.room v.rules.anchor v.rules.unspent (omega (arith, v.rules.pool_not_negative)) v.pool_bounded

  -- the clauses of the case alone are the encoding, the public values, that the nullifiers differ, and the statement
  clauses_of : Valid c t r l → Clauses c
  unfolding old_commitment_of path_end_of h_sig_of
  clauses_of v =
      let e = v.rules.encoding in
      let p = v.rules.public_values in
      let s = v.rules.statement in
      record {
        whole = (two_lengths c).1 e.whole;
        one_sided = p.one_sided;
        old_money = p.old_money;
        new_money = p.new_money;
        distinct = v.rules.distinct;
        ranges = ((e.keys.0, e.positions.0), (e.keys.1, e.positions.1));
        phi_free = e.phi;
        paths = s.merkle_path_validity;
        balance = s.balance;
        nullifiers = s.nullifier_integrity;
        addresses = s.spend_authority;
        tags = s.non_malleability;
        rhos = s.uniqueness_of_rho;
        commitments = s.commitment_integrity;
      }

  -- and with what the ledger's table says of a case that passed, they make it valid
  valid_of : Clauses c → (first ledgers).number ≡ 0 → Valid c t r l
  unfolding old_commitment_of path_end_of h_sig_of None ledger_refusals rules_in no2 no3 no6 no8 no17
  valid_of k h =
      let n = first_none ledgers ledger_numbers h in
      record {
        rules =
            record {
              encoding =
                  record { whole = (two_lengths c).0 k.whole; keys = (k.ranges.0.0, k.ranges.1.0); phi = k.phi_free; positions = (k.ranges.0.1, k.ranges.1.1) };
              public_values = record { one_sided = k.one_sided; old_money = k.old_money; new_money = k.new_money };
              anchor = among_member (anchor_of c) (anchor_rows r l) (not-false (among (anchor_of c) (anchor_rows r l)) n.1.1.0);
              distinct = k.distinct;
              unspent = (not_among (nullifier_of 1 c) (spent_rows t l) n.1.1.1.0, not_among (nullifier_of 2 c) (spent_rows t l) n.1.1.1.1.0);
              statement =
                  record {
                    merkle_path_validity = k.paths;
                    balance = k.balance;
                    nullifier_integrity = k.nullifiers;
                    spend_authority = k.addresses;
                    non_malleability = k.tags;
                    uniqueness_of_rho = k.rhos;
                    commitment_integrity = k.commitments;
                  };
              pool_not_negative = omega (arith, not_below l.pool.0 (vpub_old_of c) (vpub_new_of c) n.1.1.1.1.1.0);
            };
        undamaged = n.0;
        room = ltb-false (room_in most_nullifiers (length t)) (l.nullifiers + 2) n.1.0;
        pool_bounded = not_above l.pool.0 (vpub_old_of c) (vpub_new_of c) n.1.1.1.1.1.0;
      }

  -- ACCEPTED EXACTLY WHEN VALID
  pub accepted_valid : (answer_of c t r l).number ≡ 0 → Valid c t r l
  accepted_valid h =
      let both = lower_accepts (first (case_refusals c)) (first ledgers) (ap (λ (a : Answer). a.number) (sym (answer_lower c t r l)) ∙ h) in
      valid_of (accepted_clauses c both.0) both.1

  pub valid_accepted : Valid c t r l → answer_of c t r l ≡ accepted
  valid_accepted v =
      answer_lower c t r l ∙ ap (λ (a : Answer). lower a (first ledgers)) (clauses_accepted c (clauses_of v)) ∙ ap (lower accepted) (admits_valid v)
