-- What is carried, never checked, decides nothing: two files that agree but for it have one table, and so one answer.
-- Assumes nothing.
use Prim.Native.Nat.{ℕ}
use mathlib.Core.Path.{◌≡◌, ap}
use mathlib.Core.List.{List}
use Rattle.refusals.specs.Rules.{rules_in, first}
use Rattle.casefile.specs.Fields.{vpub_old_of, vpub_new_of, anchor_of, nullifier_of, commitment_of, seed_of, tag_of, transaction_key_of, old_key_of, old_address_of, old_value_of, old_rho_of, old_trapdoor_of, old_position_of, old_path_of, new_address_of, new_value_of, new_rho_of, new_trapdoor_of, phi_of}
use Rattle.casefile.specs.Agreement.{is_carried, is_checked, AgreeButCarried}
use Rattle.statement.specs.CaseRefusals.{no1, no4, no5, no7, no9, no10, no11, no12, no13, no14, no15, no16, range_of, old_commitment_of, strays_of, unbalanced_of, nullifier_wrong, address_wrong, h_sig_of, tag_wrong, rho_wrong, commitment_wrong, path_end_of, derived_refusals, claim_refusals, witness_refusals, case_refusals}

module _ (c d : List ℕ) (agree : AgreeButCarried c d) where
  pub carried_table : case_refusals c ≡ case_refusals d
  unfolding is_carried is_checked vpub_old_of vpub_new_of anchor_of nullifier_of commitment_of seed_of tag_of transaction_key_of old_key_of old_address_of old_value_of old_rho_of old_trapdoor_of old_position_of old_path_of new_address_of new_value_of new_rho_of new_trapdoor_of phi_of no1 no4 no5 no7 no9 no10 no11 no12 no13 no14 no15 no16 range_of old_commitment_of strays_of unbalanced_of nullifier_wrong address_wrong h_sig_of tag_wrong rho_wrong commitment_wrong path_end_of derived_refusals claim_refusals witness_refusals case_refusals rules_in
  carried_table = simp (agree.whole, agree.fields)

  pub carried_answer : first (case_refusals c) ≡ first (case_refusals d)
  carried_answer = ap first carried_table
