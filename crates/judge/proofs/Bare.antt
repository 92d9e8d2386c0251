-- What is asked of a ledger is asked of its counts: one with the same counts and no node gets the same answer.
-- Assumes nothing.
use Prim.Native.Nat.{ℕ, ◌<◌}
use mathlib.Core.Path.{◌≡◌, refl, ap}
use mathlib.Core.Bool.{true}
use mathlib.Core.List.{List}
use borrow.Author.Tests.{eqb-true, leb-false}
use lib.ListN.{length}
use Rattle.refusals.specs.Rules.{None, rules_in, first, numbered, is_accepted}
use Rattle.refusals.proofs.RuleLaws.{first_none}
use Rattle.ledger.specs.declared.Ledger.{Ledger}
use Rattle.ledger.specs.Ledgers.{most_anchors, room_in, spent_rows, anchor_rows, damage, damaged, no2, no3, no6, no8, no17, ledger_refusals, close_refusals}
use Rattle.ledgerbytes.specs.declared.Counts.{Counts}
use Rattle.ledgerbytes.specs.LedgerBytes.{counts_of, bare}
use Rattle.judge.specs.Judging.{judge_refusals, ledgers_own, answer_of}

module _ (t r : List ℕ) (l : Ledger) (k : Counts) (q : k ≡ counts_of l) where
  pub answered_bare : (c : List ℕ) → answer_of c t r (bare k) ≡ answer_of c t r l
  unfolding answer_of judge_refusals no2 no3 no6 no8 no17 damaged damage spent_rows anchor_rows
  answered_bare c = ap (λ (x : Counts). answer_of c t r (bare x)) q

  pub own_bare : (c : List ℕ) → first (ledgers_own c t r (bare k)) ≡ first (ledgers_own c t r l)
  unfolding ledger_refusals no2 no3 no6 no8 damaged damage spent_rows anchor_rows
  own_bare c = ap (λ (x : Counts). first (ledgers_own c t r (bare x))) q

  pub closing_bare : first (close_refusals t r (bare k)) ≡ first (close_refusals t r l)
  unfolding close_refusals no2 damaged damage spent_rows
  closing_bare = ap (λ (x : Counts). first (close_refusals t r (bare x))) q

-- a block that can be closed finds a free row of the roll
pub close_free : (t r : List ℕ) (l : Ledger) → is_accepted (first (close_refusals t r l)) ≡ true → l.anchors < room_in most_anchors (length r)
unfolding None close_refusals rules_in numbered no2
close_free t r l h =
    let n = first_none (close_refusals t r l) refl (eqb-true (first (close_refusals t r l)).number 0 h) in
    leb-false (room_in most_anchors (length r)) l.anchors n.1.0
