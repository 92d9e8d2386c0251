-- A case alone is accepted exactly when each of its clauses holds: a clause for each refusal that needs no ledger, under that refusal's number.
-- Assumes nothing.
use Prim.Native.Nat.{ℕ, ◌+◌, ◌-◌, ◌^◌, ◌<◌, ◌≤◌}
use mathlib.Core.Path.{◌≡◌, sym, ap, ◌∙◌}
use mathlib.Core.Logic.{◌⊎◌}
use mathlib.Core.Bool.{true, not, false≢true}
use mathlib.Core.List.{List}
use lib.ListN.{get_or}
use borrow.Author.Tests.{not-false}
use Rattle.octets.specs.Parts.{same}
use Rattle.octets.proofs.PartLaws.{same_eq, same_refl}
use Rattle.refusals.specs.Rules.{None, rules_in, first, accepted}
use Rattle.refusals.proofs.RuleLaws.{by_test, first_none, none_first}
use Rattle.refusals.proofs.Denials.{Denies, equal, at_most, below, either, both, test_of, fails, ◌&◌}
use Rattle.units.specs.Limits.{max_money, tree_leaves}
use Rattle.units.specs.Pairs.{ForBoth}
use Rattle.sprout.specs.Hashes.{has_top_bits, address_from, nullifier_from, mac_from, rho_from, commitment_from}
use Rattle.casefile.specs.Fields.{has_length, vpub_old_of, vpub_new_of, anchor_of, nullifier_of, commitment_of, tag_of, old_key_of, old_address_of, old_value_of, old_rho_of, old_position_of, new_address_of, new_value_of, new_rho_of, new_trapdoor_of, phi_of}
use Rattle.statement.specs.CaseRefusals.{both_public, above_money, out_of_range, ends_elsewhere, unbalanced, differs, path_end_of, h_sig_of, derived_refusals, claim_refusals, no1, no4, no5, no7, no9, no10, no11, no12, no13, no14, no15, no16, range_of, strays_of, unbalanced_of, nullifier_wrong, address_wrong, tag_wrong, rho_wrong, commitment_wrong, witness_refusals, case_refusals}
use Rattle.statement.proofs.Order.{case_numbered}

pub record Clauses (c : List ℕ) : Type 0 where
  -- 1
  pub whole : has_length c ≡ true
  -- 4
  pub one_sided : (vpub_old_of c ≡ 0) ⊎ (vpub_new_of c ≡ 0)
  -- 5
  pub old_money : vpub_old_of c ≤ max_money
  pub new_money : vpub_new_of c ≤ max_money
  -- 7
  pub distinct : nullifier_of 1 c ≡ nullifier_of 2 c → ⊥
  -- 9
  pub ranges : ForBoth (λ i. (get_or (old_key_of i c) 0 0 ≤ 15) × (old_position_of i c < tree_leaves))
  pub phi_free : get_or (phi_of c) 0 0 ≤ 15
  -- 10
  pub paths : ForBoth (λ i. (old_value_of i c ≡ 0) ⊎ (path_end_of i c ≡ anchor_of c))
  -- 11
  pub balance : (vpub_old_of c + old_value_of 1 c + old_value_of 2 c ≡ vpub_new_of c + new_value_of 1 c + new_value_of 2 c) × (vpub_old_of c + old_value_of 1 c + old_value_of 2 c ≤ 2 ^ 64 - 1)
  -- 12
  pub nullifiers : ForBoth (λ i. nullifier_of i c ≡ nullifier_from (old_key_of i c) (old_rho_of i c))
  -- 13
  pub addresses : ForBoth (λ i. old_address_of i c ≡ address_from (old_key_of i c))
  -- 14
  pub tags : ForBoth (λ i. tag_of i c ≡ mac_from i (old_key_of i c) (h_sig_of c))
  -- 15
  pub rhos : ForBoth (λ i. new_rho_of i c ≡ rho_from i (phi_of c) (h_sig_of c))
  -- 16
  pub commitments : ForBoth (λ i. commitment_of i c ≡ commitment_from (new_address_of i c) (new_value_of i c) (new_rho_of i c) (new_trapdoor_of i c))

-- tests on bytes
pub alike : {s t : List ℕ} → Denies (not (same s t)) (s ≡ t)
alike {s} {t} = (λ h. same_eq s t (not-false (same s t) h), λ e. rw e (ap not (same_refl t)))

pub unlike : {s t : List ℕ} → Denies (same s t) (s ≡ t → ⊥)
unlike {s} {t} =
    (λ h e. false≢true (sym h ∙ ap (same s) (sym e) ∙ same_refl s), λ n. by_test (same s t) (λ e. absurd (n (same_eq s t e))) (λ e. e))

module _ (c : List ℕ) where
  -- no row applies exactly when each clause holds
  pub none_clauses : None (case_refusals c) → Clauses c
  unfolding test_of rules_in both_public above_money has_top_bits out_of_range ends_elsewhere unbalanced differs no1 no4 no5 no7 no9 no10 no11 no12 no13 no14 no15 no16 range_of strays_of unbalanced_of nullifier_wrong address_wrong tag_wrong rho_wrong commitment_wrong derived_refusals claim_refusals witness_refusals case_refusals
  none_clauses h =
      let no = fails (case_refusals c) h in
      record {
        whole = not-false (has_length c) (no 1 0);
        one_sided = (either equal equal).0 (no 4 0);
        old_money = at_most.0 (no 5 1);
        new_money = at_most.0 (no 5 2);
        distinct = unlike.0 (no 7 0);
        ranges = ((both at_most below).0 (no 9 1), (both at_most below).0 (no 9 2));
        phi_free = at_most.0 (no 9 3);
        paths = ((either equal alike).0 (no 10 1), (either equal alike).0 (no 10 2));
        balance = (both equal at_most).0 (no 11 0);
        nullifiers = (alike.0 (no 12 1), alike.0 (no 12 2));
        addresses = (alike.0 (no 13 1), alike.0 (no 13 2));
        tags = (alike.0 (no 14 1), alike.0 (no 14 2));
        rhos = (alike.0 (no 15 1), alike.0 (no 15 2));
        commitments = (alike.0 (no 16 1), alike.0 (no 16 2));
      }

  pub clauses_none : Clauses c → None (case_refusals c)
  unfolding None rules_in both_public above_money has_top_bits out_of_range ends_elsewhere unbalanced differs no1 no4 no5 no7 no9 no10 no11 no12 no13 no14 no15 no16 range_of strays_of unbalanced_of nullifier_wrong address_wrong tag_wrong rho_wrong commitment_wrong derived_refusals claim_refusals witness_refusals case_refusals
  clauses_none k =
      ap not k.whole
      & (either equal equal).1 k.one_sided
      & at_most.1 k.old_money
      & at_most.1 k.new_money
      & unlike.1 k.distinct
      & (both at_most below).1 k.ranges.0
      & (both at_most below).1 k.ranges.1
      & at_most.1 k.phi_free
      & (either equal alike).1 k.paths.0
      & (either equal alike).1 k.paths.1
      & (both equal at_most).1 k.balance
      & alike.1 k.nullifiers.0
      & alike.1 k.nullifiers.1
      & alike.1 k.addresses.0
      & alike.1 k.addresses.1
      & alike.1 k.tags.0
      & alike.1 k.tags.1
      & alike.1 k.rhos.0
      & alike.1 k.rhos.1
      & alike.1 k.commitments.0
      & alike.1 k.commitments.1
      & tt

  -- THE THEOREM
  pub accepted_clauses : (first (case_refusals c)).number ≡ 0 → Clauses c
  accepted_clauses h = none_clauses (first_none (case_refusals c) (case_numbered c) h)

  pub clauses_accepted : Clauses c → first (case_refusals c) ≡ accepted
  clauses_accepted k = none_first (case_refusals c) (clauses_none k)
