use Rattle.std.proofs.Common.{ℕ, List, ◌++◌, drop, sym, ap, length-take-le}
use Rattle.replay.proofs.judged.Goals as goal

pub slice_bounds-judge-end-2 : goal.slice_bounds-judge-end-2
slice_bounds-judge-end-2 c = sym (length-take-le _ _ c.requires.table)

pub slice_bounds-judge-end-3 : goal.slice_bounds-judge-end-3
slice_bounds-judge-end-3 c = sym (length-take-le _ _ c.requires.roll)

pub returns : goal.returns
returns c =
    record {
      value = c.judge.ensures.value;
      table_after = ap (λ (p : List ℕ). p ++ drop c.args.state.table c.args.table.now) c.judge.ensures.table_after;
    }
