-- No answer and no ledger depends on what is carried and never checked: ephemeral key, proof and ciphertexts. So none depends on the edition.
-- Assumes nothing.
use Prim.Native.Nat.{ℕ, ◌+◌}
use mathlib.Core.Path.{◌≡◌, refl, sym, ap, ◌∙◌}
use mathlib.Core.Logic.{◌⊎◌}
use mathlib.Core.List.{List}
use lib.ListN.{length}
use Rattle.octets.specs.Numbers.{little}
use Rattle.casefile.specs.Agreement.{AgreeButCarried, is_checked, is_carried, with_proof}
use Rattle.casefile.specs.Fields.{vpub_old_of, vpub_new_of, anchor_of, nullifier_of, commitment_of}
use Rattle.casefile.proofs.Editions.{two_lengths}
use Rattle.casefile.proofs.AgreementLaws.{other_long, other_proof}
use Rattle.statement.proofs.Carried.{carried_table}
use Rattle.ledger.specs.declared.Ledger.{Ledger}
use Rattle.judge.specs.Judging.{answer_of, ledger_after_case, table_after_case}
use Rattle.judge.proofs.Halves.{answer_lower}
use Rattle.demands.specs.Validity.{IsWhole}

module _ (c d t r : List ℕ) (l : Ledger) (agree : AgreeButCarried c d) where
  same_anchor : anchor_of c ≡ anchor_of d
  unfolding anchor_of is_checked is_carried
  same_anchor = agree.fields 2 refl

  same_nullifier : (nullifier_of 1 c ≡ nullifier_of 1 d) × (nullifier_of 2 c ≡ nullifier_of 2 d)
  unfolding nullifier_of is_checked is_carried
  same_nullifier = (agree.fields 3 refl, agree.fields 4 refl)

  same_commitment : (commitment_of 1 c ≡ commitment_of 1 d) × (commitment_of 2 c ≡ commitment_of 2 d)
  unfolding commitment_of is_checked is_carried
  same_commitment = (agree.fields 5 refl, agree.fields 6 refl)

  same_values : (vpub_old_of c ≡ vpub_old_of d) × (vpub_new_of c ≡ vpub_new_of d)
  unfolding vpub_old_of vpub_new_of is_checked is_carried
  same_values = (ap little (agree.fields 0 refl), ap little (agree.fields 1 refl))

  pub same_answer : answer_of c t r l ≡ answer_of d t r l
  same_answer =
      answer_lower c t r l
      ∙ rw (carried_table c d agree, same_anchor, same_nullifier.0, same_nullifier.1, same_values.0, same_values.1) (sym (answer_lower d t r l))

  pub same_ledger : ledger_after_case c t r l ≡ ledger_after_case d t r l
  unfolding ledger_after_case
  same_ledger = rw (same_answer, same_commitment.0, same_commitment.1, same_values.0, same_values.1)

  pub same_table : table_after_case c t r l ≡ table_after_case d t r l
  unfolding table_after_case
  same_table = rw (same_answer, same_nullifier.0, same_nullifier.1)

-- THE EDITION. A whole file of either edition, with a proof of either edition's length put in the place of its own, is a whole file of that edition; it gets the
-- same answer and leaves the same ledger
module _ (b c t r : List ℕ) (l : Ledger) (whole : IsWhole c) (two : (length b ≡ 296) ⊎ (length b ≡ 192)) where
  agrees : AgreeButCarried c (with_proof b c)
  agrees = other_proof b c ((two_lengths c).1 whole) two

  pub other_edition : length (with_proof b c) ≡ length b + 3914
  other_edition = other_long b c ((two_lengths c).1 whole) two

  pub edition_answer : answer_of c t r l ≡ answer_of (with_proof b c) t r l
  edition_answer = same_answer c (with_proof b c) t r l agrees

  pub edition_ledger : ledger_after_case c t r l ≡ ledger_after_case (with_proof b c) t r l
  edition_ledger = same_ledger c (with_proof b c) t r l agrees

  pub edition_table : table_after_case c t r l ≡ table_after_case (with_proof b c) t r l
  edition_table = same_table c (with_proof b c) t r l agrees
