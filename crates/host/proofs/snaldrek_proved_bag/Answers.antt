-- Four returns: a ledger of another length, a report of another length, a bag that is refused as a whole, and one that is scanned; each rewrites the definitions by the tests that led there.
use mathlib.Core.Path.{◌≡◌, sym, ap, ◌∙◌}
use mathlib.Core.Bool.{true, not}
use native.Mathlib.Omega.{arith}
use lib.ListN.{length}
use borrow.Author.Tests.{eq-eqb, eqb-true, ne_eqb, not-true, not-false}
use Rattle.octets.proofs.Joining.{start, next, done}
use Rattle.refusals.specs.Rules.{is_accepted}
use Rattle.ledgerbytes.specs.LedgerBytes.{is_whole, buffer_after_write}
use Rattle.seal.specs.declared.Calibration.{Calibration}
use Rattle.bag.specs.declared.Scanned.{Scanned}
use Rattle.bag.specs.SealAndCases.{scanned_of}
use Rattle.host.specs.Answers.{is_long}
use Rattle.host.specs.Bags.{own_answer, scan_of, bag_answer, ledger_after_bag_call, table_after_bag_call, report_after_bag_call}
use borrow.Author.Rules.{rules}
use Rattle.host.proofs.snaldrek_proved_bag.Goals as goal

pub returns-then-ledger-ne-LEDGER_LENGTH : goal.returns-then-ledger-ne-LEDGER_LENGTH
unfolding bag_answer ledger_after_bag_call table_after_bag_call report_after_bag_call
returns-then-ledger-ne-LEDGER_LENGTH c =
    let h = ne_eqb (length c.args.ledger.now) 988 c.if-ledger-ne-LEDGER_LENGTH.true in
    record {
      value = c.refused.ensures ∙ rw h;
      ledger_after = rw h;
      table_after = rw h;
      report_after = rw h;
    }

pub returns-then-report-ne32 : goal.returns-then-report-ne32
unfolding bag_answer ledger_after_bag_call table_after_bag_call report_after_bag_call
returns-then-report-ne32 c =
    let a = c.args in
    let h = eq-eqb (length a.ledger.now) 988 (omega arith) in
    let n = ne_eqb (length a.report.now) 32 c.if-report-ne32.true in
    record {
      value = c.refused-then-report-ne32.ensures ∙ rw (h, n);
      ledger_after = rw (h, n);
      table_after = rw (h, n);
      report_after = rw (h, n);
    }

pub returns-then-not-is_accepted : goal.returns-then-not-is_accepted
unfolding bag_answer ledger_after_bag_call table_after_bag_call report_after_bag_call
returns-then-not-is_accepted c =
    let scanned : let a = c.args in
    let k : Calibration = record { gain = a.gain; offset = a.offset } in
    (is_whole a.ledger.now ≡ true) × ((is_long 32 a.report.now ≡ true) × (c.scan-scanned.result ≡ scan_of k a.bag.now a.ledger.now a.table.now a.roll.now)) = let a = c.args in
    let k : Calibration = record { gain = a.gain; offset = a.offset } in (
      eq-eqb (length a.ledger.now) 988 (omega arith),
      (eq-eqb (length a.report.now) 32 (omega arith), c.scan-scanned.ensures.value ∙ ap (scanned_of k a.bag.now a.table.now a.roll.now) c.read-kept.ensures),
    ) in
    let h = (scanned).0 in
    let n = (scanned).1.0 in
    let x = (scanned).1.1 in
    let no = ap is_accepted (ap own_answer (sym x) ∙ sym c.own_answer-own.ensures) ∙ sym c.is_accepted.ensures ∙ not-true _ (ap not c.if-not-is_accepted.true) in
    record {
      value = c.code.ensures ∙ rw (c.own_answer-own.ensures, x, h, n);
      ledger_after = rw (h, n, no);
      table_after = c.scan-scanned.ensures.table_after ∙ rw (c.read-kept.ensures, h, n);
      report_after = rw (h, n, no);
    }

pub returns : goal.returns
unfolding bag_answer ledger_after_bag_call table_after_bag_call report_after_bag_call buffer_after_write
returns c =
    let scanned : let a = c.args in
    let k : Calibration = record { gain = a.gain; offset = a.offset } in
    (is_whole a.ledger.now ≡ true) × ((is_long 32 a.report.now ≡ true) × (c.scan-scanned.result ≡ scan_of k a.bag.now a.ledger.now a.table.now a.roll.now)) = let a = c.args in
    let k : Calibration = record { gain = a.gain; offset = a.offset } in (
      eq-eqb (length a.ledger.now) 988 (omega arith),
      (eq-eqb (length a.report.now) 32 (omega arith), c.scan-scanned.ensures.value ∙ ap (scanned_of k a.bag.now a.table.now a.roll.now) c.read-kept.ensures),
    ) in
    let report_long : length c.report_of-bytes.result ≡ 32 = search rules in
    let a = c.args in
    let h = (scanned).0 in
    let n = (scanned).1.0 in
    let x = (scanned).1.1 in
    let yes = ap is_accepted (ap own_answer (sym x) ∙ sym c.own_answer-own.ensures) ∙ sym c.is_accepted.ensures ∙ not-false _ (ap not c.if-not-is_accepted.false) in
    let l : length a.report.now ≡ 32 = eqb-true (length a.report.now) 32 n in
    let m = report_long in
    let new = done (next c.report_of-bytes.result _ 32 0 (omega arith) (omega arith) c.copy_in.ensures.dst_after (start a.report.now 32 l)) in
    record {
      value = c.code-2.ensures ∙ rw (c.own_answer-own.ensures, x, h, n);
      ledger_after = c.write.ensures.bytes_after ∙ ap (λ (s : Scanned). buffer_after_write s.ledger a.ledger.now) x ∙ rw (h, n, yes);
      table_after = c.scan-scanned.ensures.table_after ∙ rw (c.read-kept.ensures, h, n);
      report_after = new ∙ c.report_of-bytes.ensures ∙ rw (x, h, n, yes);
    }
