use mathlib.Core.Bool.{not}
use mathlib.Core.Path.{sym, ◌∙◌, ap}
use Prim.Native.Nat.{◌/◌}
use native.Mathlib.Omega.{arith}
use lib.ListN.{length}
use borrow.Author.Tests.{lt-ltb, le-ltb, not-true, not-false}
use Rattle.host.specs.Books.{day_answer, day_after}
use Rattle.host.proofs.snaldrek_proved_day.Goals as goal

pub returns-then-list-row : goal.returns-then-list-row
unfolding day_answer day_after
returns-then-list-row c =
    let a = c.args in
    let h = le-ltb a.row (length a.list.now / 6) (omega arith) in
    record {
      value = c.refused.ensures ∙ rw h;
      list_after = rw h;
    }

pub returns-then-not-is_answer : goal.returns-then-not-is_answer
unfolding day_answer day_after
returns-then-not-is_answer c =
    let a = c.args in
    let h = lt-ltb a.row (length a.list.now / 6) (omega arith) in
    let n = sym c.is_answer.ensures ∙ not-true _ (ap not c.if-not-is_answer.true) in
    record {
      value = c.refused-then-not-is_answer.ensures ∙ rw (h, n);
      list_after = rw (h, n);
    }

pub returns : goal.returns
unfolding day_answer day_after
returns c =
    let a = c.args in
    let h = lt-ltb a.row (length a.list.now / 6) (omega arith) in
    let n = sym c.is_answer.ensures ∙ not-false _ (ap not c.if-not-is_answer.false) in
    record {
      value = c.code.ensures ∙ rw (c.accepted.ensures, h, n);
      list_after = c.copy_in.ensures.dst_after ∙ rw (c.day_row-bytes.ensures, h, n);
    }
