-- A REFUSAL LEAVES EVERY BUFFER that a host lent, byte for byte, of each C function; and a bag of which no case is accepted leaves the ledger's three. One
-- refusal writes: where opening finds no row on the roll, the ledger that it hands back is all zeros.
-- Assumes nothing.
use Prim.Native.Nat.{ℕ}
use mathlib.Core.Path.{◌≡◌, refl, sym, ap, ◌∙◌}
use mathlib.Core.Bool.{true, false, ◌&&◌, true≢false}
use mathlib.Core.List.{List}
use Rattle.octets.specs.Parts.{Bytes, zeros}
use Rattle.octets.specs.Numbers.{little_bytes}
use Rattle.refusals.specs.Rules.{is_accepted}
use Rattle.octets.proofs.BoolLaws.{and_both}
use Rattle.refusals.proofs.RuleLaws.{by_test}
use Rattle.seal.specs.declared.Calibration.{Calibration}
use Rattle.seal.specs.declared.Reading.{Reading}
use Rattle.std.specs.Prelude.{Float, Result, Ok, Err}
use Rattle.seal.specs.declared.SealRefusal.{SealRefusal}
use Rattle.seal.specs.Body.{read_of}
use Rattle.seal.specs.Pull.{judge_of, seal_answer}
use Rattle.tree.specs.Record.{fresh_of}
use Rattle.ledger.specs.Ledgers.{empty_ledger}
use Rattle.ledger.proofs.Endings.{open_refused, close_refused}
use Rattle.ledgerbytes.specs.LedgerBytes.{is_whole, ledger_of, head_of, ledger_bytes, buffer_after_write}
use Rattle.ledgerbytes.proofs.KeepingLaws.{written_read}
use Rattle.judge.specs.Judging.{answer_of}
use Rattle.judge.proofs.Outcomes.{refused_table}
use Rattle.bag.specs.SealAndCases.{judged_cases, table_after_bag}
use Rattle.demands.specs.Histories.{Held}
use Rattle.demands.specs.Bags.{answers_to, NoneAccepted}
use Rattle.demands.proofs.Bags.{bag_is_calls, none_accepted}
use Rattle.host.specs.Answers.{is_long}
use Rattle.host.specs.Ledgers.{open_answer, ledger_after_open_call, roll_after_open_call, judge_answer, ledger_after_judge_call, table_after_judge_call, close_answer, ledger_after_close_call, roll_after_close_call, root_answer, root_after, hash_answer, hash_after}
use Rattle.host.specs.Bags.{read_answer, handed, read_pull, body_answer, pull_after, own_answer, scan_of, bag_answer, ledger_after_bag_call, table_after_bag_call, report_after_bag_call}
use Rattle.host.specs.Books.{tally_answer, tally_after, day_answer, day_after}
use Rattle.host.proofs.KeptLaws.{refused_none}

pub judge_leaves : (c s t r : List ℕ) → is_accepted (judge_answer c s t r) ≡ false → (ledger_after_judge_call c s t r ≡ s) × (table_after_judge_call c s t r ≡ t)
unfolding ledger_after_judge_call table_after_judge_call judge_answer
judge_leaves c s t r h =
    by_test (is_whole s)
    (λ w. let e : is_accepted (answer_of c t r (ledger_of s)) ≡ false = rw w at h in (rw (w, e), rw w (refused_table c t r (ledger_of s) e)))
    (λ w. (rw w, rw w))

pub close_leaves : (s t r : List ℕ) → is_accepted (close_answer s t r) ≡ false → (ledger_after_close_call s t r ≡ s) × (roll_after_close_call s t r ≡ r)
unfolding ledger_after_close_call roll_after_close_call close_answer
close_leaves s t r h =
    by_test (is_whole s)
    (λ w. let e = rw w at h in (rw (w, e), rw w (sym (close_refused t r (ledger_of s) e).1)))
    (λ w. (rw w, rw w))

pub open_leaves_roll : (s r : List ℕ) → is_accepted (open_answer s r) ≡ false → roll_after_open_call s r ≡ r
unfolding roll_after_open_call open_answer
open_leaves_roll s r h =
    by_test (is_whole s)
    (λ w. let e = rw w at h in rw w (sym (open_refused r e).1))
    (λ w. rw w)

-- a ledger's buffer of another length stays; else it is zeros
pub open_leaves_ledger : (s r : List ℕ) → is_whole s ≡ false → ledger_after_open_call s r ≡ s
unfolding buffer_after_write
open_leaves_ledger s r w = rw w

no_ledger : ledger_bytes (empty_ledger 0) ≡ zeros 988
unfolding ledger_bytes head_of empty_ledger fresh_of little_bytes
no_ledger = refl

pub open_zeros : (s r : List ℕ) → is_whole s ≡ true → is_accepted (open_answer s r) ≡ false → ledger_after_open_call s r ≡ zeros 988
unfolding buffer_after_write open_answer
open_zeros s r w h = let e = rw w at h in rw (w, ← (open_refused r e).0) no_ledger

pub root_leaves : (s o : List ℕ) → is_accepted (root_answer s o) ≡ false → root_after s o ≡ o
unfolding root_after
root_leaves s o h = rw h

pub hash_leaves : (m o : List ℕ) → is_accepted (hash_answer o) ≡ false → hash_after m o ≡ o
unfolding hash_after
hash_leaves m o h = rw h

pub tally_leaves : (b : List ℕ) (a : ℕ) → is_accepted (tally_answer b a) ≡ false → tally_after b a ≡ b
unfolding tally_after
tally_leaves b a h = rw h

pub day_leaves : (i seal a : ℕ) (b : List ℕ) → is_accepted (day_answer i a b) ≡ false → day_after i seal a b ≡ b
unfolding day_after
day_leaves i seal a b h = rw h

-- a seal that does not pass hands out no pull
not_handed : (s : Result Float SealRefusal) (o : List ℕ) → is_accepted (seal_answer s) ≡ false → handed s o ≡ o
not_handed (Ok p) o h = absurd (true≢false h)
not_handed (Err refusal) o h = refl

not_read : (k : Calibration) (x : Result Reading SealRefusal) (o : List ℕ) → is_accepted (read_answer k x) ≡ false → read_pull k x o ≡ o
not_read k (Ok reading) o h = not_handed (judge_of k reading.gate reading.raw) o h
not_read k (Err refusal) o h = refl

pub seal_leaves : (k : Calibration) (b o : List ℕ) → is_accepted (body_answer k b o) ≡ false → pull_after k b o ≡ o
unfolding pull_after body_answer
seal_leaves k b o h =
    by_test (is_long 8 o)
    (λ l. rw l (not_read k (read_of b) o (rw l at h)))
    (λ l. rw l)

-- A BAG whose own answer refuses, and one of whose cases none is accepted
module _ (k : Calibration) (b s t r o : List ℕ) where
  abbrev before : Held
  before = record { table = t; roll = r; ledger = ledger_of s }

  none_left : NoneAccepted (answers_to (judged_cases k b) before) → ((scan_of k b s t r).ledger ≡ ledger_of s) × (table_after_bag k b t r (ledger_of s) ≡ t)
  none_left n =
      let a = bag_is_calls k b before in
      let e = none_accepted (judged_cases k b) before n in
      (a.ledger ∙ ap (λ (h : Held). h.ledger) e, a.table ∙ ap (λ (h : Held). h.table) e)

  table_left : NoneAccepted (answers_to (judged_cases k b) before) → table_after_bag_call k b s t r o ≡ t
  unfolding table_after_bag_call
  table_left n = by_test (is_whole s && is_long 32 o) (λ e. rw e (none_left n).1) (λ e. rw e)

  -- no byte of the ledger, the table or the roll changes
  pub none_accepted_leaves : Bytes s → NoneAccepted (answers_to (judged_cases k b) before) → (ledger_after_bag_call k b s t r o ≡ s) × (table_after_bag_call k b s t r o ≡ t)
  unfolding ledger_after_bag_call bag_answer
  none_accepted_leaves h n =
      (by_test (is_whole s) (λ w. by_test (is_accepted (bag_answer k b s t r o)) (λ e. rw e (ap ledger_bytes (none_left n).0 ∙ written_read s h w)) (λ e. rw e)) (λ w. rw w), table_left n)

  -- and where the bag itself is refused, none of the report either
  pub bag_leaves : is_accepted (bag_answer k b s t r o) ≡ false → (ledger_after_bag_call k b s t r o ≡ s) × ((table_after_bag_call k b s t r o ≡ t) × (report_after_bag_call k b s t r o ≡ o))
  unfolding ledger_after_bag_call report_after_bag_call table_after_bag_call bag_answer answers_to NoneAccepted
  bag_leaves h =
      (rw h, (by_test (is_whole s && is_long 32 o) (λ e. table_left (rw (refused_none k b s t r o (own e)) tt)) (λ e. rw e), rw h))
    where
      own : (is_whole s && is_long 32 o) ≡ true → is_accepted (own_answer (scan_of k b s t r)) ≡ false
      own e =
          let p = and_both (is_whole s) (is_long 32 o) e in
          rw (p.0, p.1) at h
