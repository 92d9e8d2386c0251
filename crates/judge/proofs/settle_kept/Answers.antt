-- As for a case that is judged: the answer from the counts alone is that of the whole ledger (`decided`), and by it the table and the bytes are left or written.
use Prim.Native.Nat.{ℕ}
use mathlib.Core.Path.{◌≡◌, sym, ap, ap₂, ◌∙◌}
use mathlib.Core.Bool.{not}
use mathlib.Core.List.{List}
use borrow.Author.Tests.{not-true, not-false, eqb-true}
use Rattle.refusals.specs.declared.Answer.{Answer}
use Rattle.refusals.specs.Rules.{first, is_accepted, lower}
use Rattle.ledgerbytes.specs.declared.Counts.{Counts}
use Rattle.ledgerbytes.specs.LedgerBytes.{counts_of, bare, ledger_of}
use Rattle.judge.specs.Judging.{ledgers_own}
use Rattle.judge.specs.Settling.{own_counted, settled_answer, ledger_after_settling, table_after_settling}
use Rattle.judge.proofs.Bare.{own_bare}
use Rattle.judge.proofs.Outcomes.{both_left, both_entered}
use Rattle.judge.proofs.Readiness.{ready_settled}
use Rattle.judge.proofs.settle_kept.Goals as goal

decided : (own weighed counts_for : Answer) (c t r s : List ℕ) (counts : Counts) → counts ≡ counts_of (ledger_of s) → counts_for ≡ own_counted own c
    → weighed ≡ lower counts_for (first (ledgers_own c t r (bare counts))) → weighed ≡ settled_answer own c t r (ledger_of s)
unfolding settled_answer
decided own weighed counts_for c t r s counts q f e = e ∙ ap₂ lower f (own_bare t r (ledger_of s) counts q c)

pub returns-then-not-is_accepted : goal.returns-then-not-is_accepted
unfolding ledger_after_settling table_after_settling
returns-then-not-is_accepted c =
    let a = c.args in
    let d = decided a.own _ _ a.case.now a.table.now a.roll.now a.kept.now _ c.read_counts-counts.ensures c.counted.ensures c.weigh-settled.ensures in
    let all = both_left _ a.case.now a.table.now a.kept.now (ledger_of a.kept.now) (ap is_accepted (sym d) ∙ sym c.is_accepted.ensures ∙ not-true _ (ap not c.if-not-is_accepted.true)) in
    record {
      value = d;
      table_after = all.0;
      kept_after = all.1;
    }

pub enter_kept-requires : goal.enter_kept-requires
enter_kept-requires c =
    let a = c.args in
    let d = decided a.own _ _ a.case.now a.table.now a.roll.now a.kept.now _ c.read_counts-counts.ensures c.counted.ensures c.weigh-settled.ensures in
    ready_settled a.own a.case.now a.table.now a.roll.now (ledger_of a.kept.now)
    (eqb-true _ 0 (ap is_accepted (sym d) ∙ sym c.is_accepted.ensures ∙ not-false _ (ap not c.if-not-is_accepted.false)))

pub returns : goal.returns
unfolding ledger_after_settling table_after_settling
returns c =
    let a = c.args in
    let d = decided a.own _ _ a.case.now a.table.now a.roll.now a.kept.now _ c.read_counts-counts.ensures c.counted.ensures c.weigh-settled.ensures in
    let next = both_entered _ a.case.now a.table.now a.kept.now (ledger_of a.kept.now) (ap is_accepted (sym d) ∙ sym c.is_accepted.ensures ∙ not-false _ (ap not c.if-not-is_accepted.false)) in
    record {
      value = d;
      table_after = c.enter_kept.ensures.table_after ∙ next.0;
      kept_after = c.enter_kept.ensures.kept_after ∙ next.1;
    }
