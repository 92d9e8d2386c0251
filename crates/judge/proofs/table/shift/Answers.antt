use mathlib.Core.Path.{ap, ◌∙◌}
use mathlib.Core.List.{List}
use Prim.Native.Nat.{ℕ}
use Rattle.ledger.specs.Rows.{shifted}
use Rattle.ledger.proofs.RowLaws.{shifted_copy, shifted_more}
use Rattle.judge.proofs.table.shift.Goals as goal

pub returns : goal.returns
returns c =
    let a = c.args in
    let left = c.shift_eights-left.result in
    let e = c.shift_eights-left.ensures in
    c.copy_within.ensures.after
    ∙ shifted_copy c.shift_eights-left.new.table a.low left e.not_below
    ∙ ap (λ (s : List ℕ). shifted s a.low left) e.table_after
    ∙ shifted_more a.table.now a.low left a.high e.not_below e.not_above c.requires.room
