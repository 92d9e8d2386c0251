-- Before row i the answers given so far stand in the array, and judging the bodies from row i on, from this table and ledger, gives what judging all cases gives (`Before`); one case judged is one turn of it.
use lib.ListN.{length-set}
use Prim.Native.Nat.{◌-◌}
use mathlib.Core.Path.{refl, ◌∙◌}
use native.Mathlib.Omega.{arith}
use Rattle.bag.proofs.OrderLaws.{kept}
use Rattle.bag.proofs.CaseLaws.{start, turn, table_left, reported}
use borrow.Author.Rules.{rules}
use Rattle.bag.proofs.judge_cases.Goals as goal

pub loop-i-init : goal.loop-i-init
loop-i-init c =
    let a = c.args in
    let k = kept a.bag.now c.requires in
    let n = c.row_count-n.ensures in
    record {
      first = omega arith;
      last = omega (arith, k.some, n);
      few = omega (arith, k.few, n);
      room = refl;
      as_long = refl;
      before = start a.bag.now a.table.now a.roll.now a.start c.row_count-n.result c.not_given-none.result c.not_given-none.ensures n;
    }

pub body-case-requires : goal.body-case-requires
body-case-requires c =
    let k = kept c.args.bag.now c.requires in
    record {
      i_bound = search rules;
      bag_in_bounds = k.lies c.loop-i.i (omega (arith, c.row_count-n.ensures));
    }

pub loop-i-preserved : goal.loop-i-preserved
loop-i-preserved c =
    let a = c.args in
    let l = c.loop-i.invariant in
    record {
      first = omega arith;
      last = omega arith;
      few = l.few;
      room = length-set c.loop-i.answers (c.loop-i.i - 1) c.judge-judged.result.answer ∙ l.room;
      as_long = c.judge-judged.auto.table ∙ l.as_long;
      before = turn a.bag.now a.table.now a.roll.now a.start c.row_count-n.result c.loop-i.i c.loop-i.answers c.loop-i.table c.loop-i.ledger (omega arith) (omega arith) l.before
          c.body-case.result.now c.judge-judged.result c.judge-judged.new.table c.body-case.ensures c.judge-judged.ensures.value c.judge-judged.ensures.table_after;
    }

pub returns : goal.returns
returns c =
    let a = c.args in
    let g = c.loop-i.invariant.before in
    record {
      value = reported a.bag.now a.table.now a.roll.now a.start c.row_count-n.result c.loop-i.i c.loop-i.answers c.loop-i.table c.loop-i.ledger (omega arith) g c.accepted-passed.result c.accepted-passed.ensures;
      table_after = table_left a.bag.now a.table.now a.roll.now a.start c.row_count-n.result c.loop-i.i c.loop-i.answers c.loop-i.table c.loop-i.ledger (omega arith) g;
    }
