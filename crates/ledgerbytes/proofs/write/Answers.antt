use mathlib.Core.Path.{◌≡◌, sym, ◌∙◌}
use native.Mathlib.Omega.{arith}
use lib.ListN.{length}
use borrow.Author.Tests.{eq-eqb, ne_eqb}
use Rattle.octets.proofs.Joining.{start, next, done}
use Rattle.tree.specs.RecordBytes.{record_bytes}
use Rattle.tree.proofs.RecordLaws.{record_long}
use Rattle.ledgerbytes.specs.LedgerBytes.{ledger_bytes, buffer_after_write}
use borrow.Author.Rules.{rules}
use Rattle.ledgerbytes.proofs.write.Goals as goal

pub returns-then-bytes-ne-LEDGER_LENGTH : goal.returns-then-bytes-ne-LEDGER_LENGTH
unfolding buffer_after_write
returns-then-bytes-ne-LEDGER_LENGTH c =
    let b = c.args.bytes.now in
    let h = ne_eqb (length b) 988 c.if-bytes-ne-LEDGER_LENGTH.true in
    record {
      value = sym h;
      bytes_after = sym (rw h);
    }

pub returns : goal.returns
unfolding buffer_after_write ledger_bytes
returns c =
    let a = c.args in
    let b = a.bytes.now in
    let e : length b ≡ 988 = omega arith in
    let hf : length c.head.result ≡ 24 = search rules in
    let nodes_long : length a.ledger.tree.nodes ≡ 960 = search rules in
    let hr : length (record_bytes a.ledger.tree) ≡ 964 = record_long a.ledger.tree nodes_long in
    let l1 = next c.head.result _ 24 964 (omega arith) (omega arith) c.copy_in.ensures.dst_after (start b 988 e) in
    record {
      value = sym (eq-eqb (length b) 988 e);
      bytes_after = done (next (record_bytes a.ledger.tree) _ 988 0 (omega arith) (omega arith) c.write_record.ensures.bytes_after l1) ∙ rw (eq-eqb (length b) 988 e, c.head.ensures);
    }
