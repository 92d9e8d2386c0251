-- The answer from the counts alone is that of the whole ledger (`closing_bare`); where it refuses, nothing is written, and where it does not, the roll and the bytes are those of the closed ledger.
use mathlib.Core.Path.{sym, ap, ◌∙◌}
use Prim.Native.Nat.{◌+◌, ◌*◌}
use Rattle.octets.specs.Parts.{pasted}
use Rattle.refusals.specs.Rules.{is_accepted}
use Rattle.refusals.proofs.RuleLaws.{never_accepted, passed_on}
use Rattle.tree.specs.Record.{record_root}
use Rattle.ledger.specs.declared.Ledger.{Ledger}
use Rattle.ledger.specs.Ledgers.{closed_of}
use Rattle.ledger.proofs.Endings.{close_refused, close_passed}
use Rattle.ledgerbytes.specs.LedgerBytes.{ledger_of, buffer_after_write}
use Rattle.judge.proofs.Bare.{closing_bare, close_free}
use Rattle.judge.proofs.Outcomes.{refused_kept, accepted_kept}
use Rattle.judge.proofs.close_kept.Goals as goal

pub returns-in_err-closing : goal.returns-in_err-closing
returns-in_err-closing c =
    let a = c.args in
    let l = ledger_of a.kept.now in
    let d = c.in_err-closing.ensures ∙ closing_bare a.table.now a.roll.now l _ c.read_counts.ensures in
    let no = ap is_accepted (sym d) ∙ never_accepted _ in
    record {
      value = passed_on _ _ c.from_residual.ensures ∙ d;
      roll_after = (close_refused a.table.now a.roll.now l no).1;
      kept_after = refused_kept _ (closed_of a.table.now a.roll.now l) a.kept.now no;
    }

pub closed-next-requires : goal.closed-next-requires
closed-next-requires c =
    let a = c.args in
    let d = c.in_ok-closing.ensures ∙ closing_bare a.table.now a.roll.now (ledger_of a.kept.now) _ c.read_counts.ensures in
    rw c.read-before.ensures (close_free a.table.now a.roll.now (ledger_of a.kept.now) (ap is_accepted (sym d)))

pub returns : goal.returns
returns c =
    let a = c.args in
    let l = ledger_of a.kept.now in
    let d = c.in_ok-closing.ensures ∙ closing_bare a.table.now a.roll.now l _ c.read_counts.ensures in
    let accepts = ap is_accepted (sym d) in
    let yes = close_passed a.table.now a.roll.now l accepts in
    let next = c.closed-next.ensures.value ∙ ap (λ (x : Ledger). record { nullifiers = x.nullifiers; anchors = x.anchors + 1; tree = x.tree; pool = x.pool }) c.read-before.ensures ∙ yes.0 in
    record {
      value = d;
      roll_after = c.closed-next.ensures.roll_after ∙ ap (λ (x : Ledger). pasted (x.anchors * 32) (record_root x.tree) a.roll.now) c.read-before.ensures ∙ yes.1;
      kept_after = c.write.ensures.bytes_after ∙ ap (λ (x : Ledger). buffer_after_write x a.kept.now) next ∙ accepted_kept _ (closed_of a.table.now a.roll.now l) a.kept.now accepts;
    }
