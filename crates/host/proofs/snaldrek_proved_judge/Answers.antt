use mathlib.Core.Path.{◌∙◌}
use native.Mathlib.Omega.{arith}
use lib.ListN.{length}
use borrow.Author.Tests.{eq-eqb, ne_eqb}
use Rattle.ledgerbytes.specs.LedgerBytes.{buffer_after_write}
use Rattle.judge.specs.Kept.{kept_after}
use Rattle.host.specs.Ledgers.{judge_answer, ledger_after_judge_call, table_after_judge_call}
use Rattle.host.proofs.snaldrek_proved_judge.Goals as goal

pub returns-then-ledger-ne-LEDGER_LENGTH : goal.returns-then-ledger-ne-LEDGER_LENGTH
unfolding judge_answer ledger_after_judge_call table_after_judge_call
returns-then-ledger-ne-LEDGER_LENGTH c =
    let h = ne_eqb (length c.args.ledger.now) 988 c.if-ledger-ne-LEDGER_LENGTH.true in
    record {
      value = c.refused.ensures ∙ rw h;
      ledger_after = rw h;
      table_after = rw h;
    }

pub returns : goal.returns
unfolding judge_answer ledger_after_judge_call table_after_judge_call kept_after buffer_after_write
returns c =
    let a = c.args in
    let h = eq-eqb (length a.ledger.now) 988 (omega arith) in
    let d = c.judge_kept.ensures in
    record {
      value = c.code.ensures ∙ rw (c.from.ensures, d.value, h);
      ledger_after = d.kept_after ∙ rw h;
      table_after = d.table_after ∙ rw h;
    }
