use mathlib.Core.Path.{◌≡◌, ◌∙◌}
use native.Mathlib.Omega.{arith}
use lib.ListN.{length}
use borrow.Author.Tests.{eq-eqb, ne_eqb}
use Rattle.octets.proofs.Joining.{start, next, done}
use Rattle.host.specs.Ledgers.{root_answer, root_after}
use borrow.Author.Rules.{rules}
use Rattle.host.proofs.snaldrek_proved_root.Goals as goal

pub returns-then-ledger-ne-LEDGER_LENGTH : goal.returns-then-ledger-ne-LEDGER_LENGTH
unfolding root_answer root_after
returns-then-ledger-ne-LEDGER_LENGTH c =
    let h = ne_eqb (length c.args.ledger.now) 988 c.if-ledger-ne-LEDGER_LENGTH.true in
    record {
      value = c.refused.ensures ∙ rw h;
      root_after = rw h;
    }

pub returns-then-root-ne32 : goal.returns-then-root-ne32
unfolding root_answer root_after
returns-then-root-ne32 c =
    let a = c.args in
    let h = eq-eqb (length a.ledger.now) 988 (omega arith) in
    let n = ne_eqb (length a.root.now) 32 c.if-root-ne32.true in
    record {
      value = c.refused-then-root-ne32.ensures ∙ rw (h, n);
      root_after = rw (h, n);
    }

pub returns : goal.returns
unfolding root_answer root_after
returns c =
    let root_long : length c.root-now.result ≡ 32 = search rules in
    let a = c.args in
    let h = eq-eqb (length a.ledger.now) 988 (omega arith) in
    let n : length a.root.now ≡ 32 = omega arith in
    let m = root_long in
    let new = done (next c.root-now.result _ 32 0 (omega arith) (omega arith) c.copy_in.ensures.dst_after (start a.root.now 32 n)) in
    record {
      value = c.code.ensures ∙ rw (c.accepted.ensures, h, eq-eqb (length a.root.now) 32 n);
      root_after = new ∙ c.root-now.ensures ∙ rw (c.read-kept.ensures, h, eq-eqb (length a.root.now) 32 n);
    }
