use mathlib.Core.Path.{◌∙◌}
use native.Mathlib.Omega.{arith}
use lib.ListN.{length}
use borrow.Author.Tests.{eq-eqb, ne_eqb}
use Rattle.ledgerbytes.specs.LedgerBytes.{buffer_after_write}
use Rattle.host.specs.Ledgers.{open_answer, roll_after_open_call}
use Rattle.host.proofs.snaldrek_proved_open.Goals as goal

pub returns-then-ledger-ne-LEDGER_LENGTH : goal.returns-then-ledger-ne-LEDGER_LENGTH
unfolding open_answer roll_after_open_call buffer_after_write
returns-then-ledger-ne-LEDGER_LENGTH c =
    let h = ne_eqb (length c.args.ledger.now) 988 c.if-ledger-ne-LEDGER_LENGTH.true in
    record {
      value = c.refused.ensures ∙ rw h;
      ledger_after = rw h;
      roll_after = rw h;
    }

pub returns : goal.returns
unfolding open_answer roll_after_open_call
returns c =
    let h = eq-eqb (length c.args.ledger.now) 988 (omega arith) in
    record {
      value = c.code.ensures ∙ rw (c.open-opened.ensures.answer_value, h);
      ledger_after = c.write.ensures.bytes_after ∙ rw c.open-opened.ensures.ledger_value;
      roll_after = c.open-opened.ensures.roll_after ∙ rw h;
    }
