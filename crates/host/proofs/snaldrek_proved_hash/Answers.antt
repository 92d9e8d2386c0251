use mathlib.Core.Path.{◌≡◌, ◌∙◌}
use native.Mathlib.Omega.{arith}
use lib.ListN.{length}
use borrow.Author.Tests.{eq-eqb, ne_eqb}
use Rattle.octets.proofs.Joining.{start, next, done}
use Rattle.host.specs.Ledgers.{hash_answer, hash_after}
use borrow.Author.Rules.{rules}
use Rattle.host.proofs.snaldrek_proved_hash.Goals as goal

pub returns-then-digest-ne32 : goal.returns-then-digest-ne32
unfolding hash_answer hash_after
returns-then-digest-ne32 c =
    let h = ne_eqb (length c.args.digest.now) 32 c.if-digest-ne32.true in
    record {
      value = c.refused.ensures ∙ rw h;
      digest_after = rw h;
    }

pub returns : goal.returns
unfolding hash_answer hash_after
returns c =
    let hash_long : length c.hash-sum.result ≡ 32 = search rules in
    let a = c.args in
    let n : length a.digest.now ≡ 32 = omega arith in
    let h = eq-eqb (length a.digest.now) 32 n in
    let m = hash_long in
    let new = done (next c.hash-sum.result _ 32 0 (omega arith) (omega arith) c.copy_in.ensures.dst_after (start a.digest.now 32 n)) in
    record {
      value = c.code.ensures ∙ rw (c.accepted.ensures, h);
      digest_after = new ∙ c.hash-sum.ensures ∙ rw h;
    }
