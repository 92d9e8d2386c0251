use Prim.Native.Nat.{◌%◌}
use native.Mathlib.Omega.{arith}
use lib.Dec.{eqb}
use borrow.Author.Tests.{lt-ltb, le-ltb, eq-eqb, eqb-true, ne_eqb}
use Rattle.refusals.proofs.RuleLaws.{by_test}
use Rattle.host.specs.Books.{is_answer}
use Rattle.host.proofs.is_answer.Goals as goal

pub returns-then-answer-gt65535 : goal.returns-then-answer-gt65535
unfolding is_answer
returns-then-answer-gt65535 c =
    let a = c.args.answer in
    let far = le-ltb a 65536 (omega arith) in
    by_test (eqb (a % 256) 8)
    (λ e. let n = ne_eqb (a % 256) 0 (λ z. omega (arith, z, eqb-true (a % 256) 8 e)) in rw (far, e, n))
    (λ e. rw (far, e))

pub returns-then-answer-ne0 : goal.returns-then-answer-ne0
unfolding is_answer
returns-then-answer-ne0 c = simp (lt-ltb c.args.answer 65536 (omega arith), ne_eqb _ _ c.if-answer-ne0.true)

pub returns : goal.returns
unfolding is_answer
returns c = simp (lt-ltb c.args.answer 65536 (omega arith), eq-eqb _ _ c.if-answer-ne0.false)
