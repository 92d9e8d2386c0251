-- What one accepted case finds and leaves: the facts that the second and the third demand share.
-- Assumes nothing.
use Prim.Native.Nat.{ℕ, ◌+◌}
use mathlib.Core.Path.{◌≡◌}
use mathlib.Core.Bool.{true, false}
use mathlib.Core.List.{List}
use borrow.Author.Tests.{eq-eqb}
use lib.ListN.{length}
use Rattle.octets.specs.Parts.{same}
use Rattle.octets.proofs.PartLaws.{field_length}
use Rattle.units.specs.Pairs.{ForBoth}
use Rattle.casefile.specs.Layout.{description, old_note_lengths, new_note_lengths, lengths, part_of}
use Rattle.casefile.specs.Fields.{vpub_old_of, vpub_new_of, nullifier_of, commitment_of}
use Rattle.ledger.specs.declared.Ledger.{Ledger}
use Rattle.ledger.specs.Sorted.{insert}
use Rattle.ledger.specs.Rows.{byte_order, table_with_two, among}
use Rattle.ledger.specs.Ledgers.{spent_rows, entered_of, Ready}
use Rattle.ledger.proofs.Soundness.{Sound, undamaged}
use Rattle.ledger.proofs.Pools.{pool_sum}
use Rattle.ledger.proofs.Entering.{table_length, rows_after, sound_after, among_other, among_first, among_second}
use Rattle.judge.specs.Judging.{answer_of, ledger_after_case, table_after_case}
use Rattle.judge.proofs.Outcomes.{accepted_ledger, accepted_table}
use Rattle.judge.proofs.Readiness.{ready}
use Rattle.demands.specs.Validity.{Valid}
use Rattle.demands.proofs.Demand2.{accepted_valid}

-- a nullifier and a commitment have 32 bytes
pub nullifier_long : (c : List ℕ) → ForBoth (λ i. length (nullifier_of i c) ≡ 32)
unfolding nullifier_of part_of lengths description old_note_lengths new_note_lengths
nullifier_long c = (field_length _ 32 c, field_length _ 32 c)

pub commitment_long : (c : List ℕ) → ForBoth (λ i. length (commitment_of i c) ≡ 32)
unfolding commitment_of part_of lengths description old_note_lengths new_note_lengths
commitment_long c = (field_length _ 32 c, field_length _ 32 c)

module _ (c t r : List ℕ) (l : Ledger) (h : (answer_of c t r l).number ≡ 0) where
  valid : Valid c t r l
  valid = accepted_valid c t r l h

  pub sound_before : Sound t r l
  sound_before = undamaged t r l valid.undamaged

  pub ready_before : Ready t l (nullifier_of 1 c) (nullifier_of 2 c) (vpub_old_of c) (vpub_new_of c)
  ready_before = ready c t r l h

  pub table_is : table_after_case c t r l ≡ table_with_two l.nullifiers t (nullifier_of 1 c) (nullifier_of 2 c)
  table_is = accepted_table c t r l (eq-eqb (answer_of c t r l).number 0 h)

  pub ledger_is : ledger_after_case c t r l ≡ entered_of l (commitment_of 1 c) (commitment_of 2 c) (vpub_old_of c) (vpub_new_of c)
  ledger_is = accepted_ledger c t r l (eq-eqb (answer_of c t r l).number 0 h)

  pub length_then : length (table_after_case c t r l) ≡ length t
  length_then = rw table_is (table_length t r l (nullifier_of 1 c) (nullifier_of 2 c) (commitment_of 1 c) (commitment_of 2 c) (vpub_old_of c) (vpub_new_of c) sound_before ready_before (nullifier_long c).0 (nullifier_long c).1)

  pub rows_then : spent_rows (table_after_case c t r l) (ledger_after_case c t r l) ≡ insert byte_order (nullifier_of 2 c) (insert byte_order (nullifier_of 1 c) (spent_rows t l))
  rows_then = rw (table_is, ledger_is) (rows_after t r l (nullifier_of 1 c) (nullifier_of 2 c) (commitment_of 1 c) (commitment_of 2 c) (vpub_old_of c) (vpub_new_of c) sound_before ready_before (nullifier_long c).0 (nullifier_long c).1)

  pub sound_then : Sound (table_after_case c t r l) r (ledger_after_case c t r l)
  sound_then = rw (table_is, ledger_is) (sound_after t r l (nullifier_of 1 c) (nullifier_of 2 c) (commitment_of 1 c) (commitment_of 2 c) (vpub_old_of c) (vpub_new_of c) sound_before ready_before (nullifier_long c).0 (nullifier_long c).1)

  -- the pool, by sums
  pub pool_then : (ledger_after_case c t r l).pool.0 + vpub_new_of c ≡ l.pool.0 + vpub_old_of c
  unfolding entered_of
  pool_then = rw ledger_is (pool_sum l.pool.0 (vpub_old_of c) (vpub_new_of c) ready_before.pool)

  -- another row is in the table as before, and the two nullifiers are in it now
  pub other_then : (z : List ℕ) → same (nullifier_of 1 c) z ≡ false → same (nullifier_of 2 c) z ≡ false
      → among z (spent_rows (table_after_case c t r l) (ledger_after_case c t r l)) ≡ among z (spent_rows t l)
  other_then z p q = rw (table_is, ledger_is) (among_other t r l (nullifier_of 1 c) (nullifier_of 2 c) (commitment_of 1 c) (commitment_of 2 c) (vpub_old_of c) (vpub_new_of c) sound_before ready_before (nullifier_long c).0 (nullifier_long c).1 z p q)

  pub own_then : ForBoth (λ i. among (nullifier_of i c) (spent_rows (table_after_case c t r l) (ledger_after_case c t r l)) ≡ true)
  own_then =
      (rw (table_is, ledger_is) (among_first t r l (nullifier_of 1 c) (nullifier_of 2 c) (commitment_of 1 c) (commitment_of 2 c) (vpub_old_of c) (vpub_new_of c) sound_before ready_before (nullifier_long c).0 (nullifier_long c).1), rw (table_is, ledger_is) (among_second t r l (nullifier_of 1 c) (nullifier_of 2 c) (commitment_of 1 c) (commitment_of 2 c) (vpub_old_of c) (vpub_new_of c) sound_before ready_before (nullifier_long c).0 (nullifier_long c).1))
