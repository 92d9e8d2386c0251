-- After i turns the rows of the first i cases are on the page, and start is where the next case starts: behind these.
use Rattle.std.proofs.Common.{◌≡◌, ◌+◌, ◌*◌, ◌≤◌}
use Rattle.text.specs.Pen.{Wrote}
use Rattle.packing.specs.Bags.{rows_from}
use Rattle.packing.specs.Packing.{sizes_from, sum}
use Rattle.packing.proofs.put_rows.Given as goal

abbrev pub invariant-loop-i : goal.invariant-loop-i
invariant-loop-i l = record {
  below : l.start ≤ 99 + 1000000000000000 * l.i;
  next : l.start ≡ l.first + sum (sizes_from l.i l.k l.line);
  wrote : Wrote (9 * l.i) (rows_from 1 l.first (sizes_from l.i l.k l.line)) l.initial.page l.page;
}
