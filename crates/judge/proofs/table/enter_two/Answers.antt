use mathlib.Core.Path.{ap, ◌∙◌}
use mathlib.Core.List.{List}
use Prim.Native.Nat.{ℕ, ◌+◌}
use Rattle.ledger.specs.Rows.{with_row}
use Rattle.ledger.proofs.TableLaws.{second_room, second_rising, second_gap, entered_both}
use Rattle.judge.proofs.table.enter_two.Goals as goal

pub enter_one-requires-2 : goal.enter_one-requires-2
enter_one-requires-2 c =
    let a = c.args in
    let long = c.enter_one.ensures.row_len in
    let e = c.enter_one.ensures.table_after in
    record {
      count_in_bounds = rw e (second_room a.count a.table.now a.a.now a.b.now c.requires.count_in_bounds long c.requires.fresh);
      table_rises = rw e (second_rising a.count a.table.now a.a.now a.b.now c.requires.count_in_bounds long c.requires.fresh c.requires.table_rises);
      row_is_new = rw e (second_gap a.count a.table.now a.a.now a.b.now c.requires.count_in_bounds long c.requires.fresh);
    }

pub returns : goal.returns
returns c =
    let a = c.args in
    c.enter_one-2.ensures.table_after
    ∙ ap (λ (t : List ℕ). with_row (a.count + 1) t a.b.now) c.enter_one.ensures.table_after
    ∙ entered_both a.count a.table.now a.a.now a.b.now c.requires.count_in_bounds c.enter_one.ensures.row_len c.requires.fresh
