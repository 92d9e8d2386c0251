use mathlib.Core.Path.{sym, ◌∙◌}
use native.Mathlib.Omega.{arith}
use lib.ListN.{length}
use borrow.Author.Tests.{eq-eqb, ne_eqb}
use Rattle.host.specs.Bags.{body_answer, pull_after}
use Rattle.host.proofs.snaldrek_proved_seal.Goals as goal

pub returns-then-pull-ne8 : goal.returns-then-pull-ne8
unfolding body_answer pull_after
returns-then-pull-ne8 c =
    let h = ne_eqb (length c.args.pull.now) 8 c.if-pull-ne8.true in
    record {
      value = c.refused.ensures ∙ rw h;
      pull_after = rw h;
    }

pub returns-in-Ok : goal.returns-in-Ok
unfolding body_answer pull_after
returns-in-Ok c =
    let h = eq-eqb (length c.args.pull.now) 8 (omega arith) in
    let g = sym c.read_body.ensures ∙ c.in-Ok.is in
    record {
      value = c.hand_out.ensures.value ∙ rw (c.judge.ensures, h, g);
      pull_after = c.hand_out.ensures.pull_after ∙ rw (c.judge.ensures, h, g);
    }

pub returns-in-Err : goal.returns-in-Err
unfolding body_answer pull_after
returns-in-Err c =
    let h = eq-eqb (length c.args.pull.now) 8 (omega arith) in
    let g = sym c.read_body.ensures ∙ c.in-Err.is in
    record {
      value = c.code.ensures ∙ rw (c.from.ensures, h, g);
      pull_after = rw (h, g);
    }
