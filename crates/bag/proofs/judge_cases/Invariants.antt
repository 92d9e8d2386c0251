-- Before row i the answers given so far stand in the array, and judging the bodies from row i on, from this table and ledger, gives what judging all cases gives (`Before`); one case judged is one turn of it.
use Prim.Native.Nat.{◌-◌, ◌≤◌}
use mathlib.Core.Path.{◌≡◌}
use lib.ListN.{length}
use Rattle.bag.proofs.CaseLaws.{Before}
use Rattle.bag.proofs.judge_cases.Given as goal

abbrev pub invariant-loop-i : goal.invariant-loop-i
invariant-loop-i l = record {
  first : 1 ≤ l.i;
  last : l.i ≤ l.n;
  few : l.n ≤ 8;
  room : length l.answers ≡ 7;
  as_long : length l.table ≡ length l.initial.table;
  before : Before l.bag l.initial.table l.roll l.initial.ledger l.n l.i l.answers l.table l.ledger;
}

abbrev pub decreases-loop-i : goal.decreases-loop-i
decreases-loop-i l = l.n - l.i
