use mathlib.Core.Path.{ap, ◌∙◌}
use Rattle.casefile.specs.Fields.{vpub_old_of, vpub_new_of, nullifier_of, commitment_of}
use Rattle.ledger.specs.declared.Ledger.{Ledger}
use Rattle.ledger.specs.Rows.{table_with_two}
use Rattle.ledger.specs.Ledgers.{entered_of}
use Rattle.ledgerbytes.specs.LedgerBytes.{buffer_after_write}
use Rattle.judge.proofs.enter_kept.Goals as goal

pub enter-after-requires : goal.enter-after-requires
enter-after-requires c = rw c.read-before.ensures c.requires

pub returns : goal.returns
returns c =
    let a = c.args in
    let case = a.case.now in
    record {
      table_after = c.enter-after.ensures.table_after
          ∙ ap (λ (x : Ledger). table_with_two x.nullifiers a.table.now (nullifier_of 1 case) (nullifier_of 2 case)) c.read-before.ensures;
      kept_after = c.write.ensures.bytes_after
          ∙ ap (λ (x : Ledger). buffer_after_write x a.kept.now)
          (c.enter-after.ensures.value
          ∙ ap (λ (x : Ledger). entered_of x (commitment_of 1 case) (commitment_of 2 case) (vpub_old_of case) (vpub_new_of case)) c.read-before.ensures);
    }
