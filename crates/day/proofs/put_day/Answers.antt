use mathlib.Core.List.{List}
use mathlib.Core.Path.{refl, ap}
use native.Mathlib.Omega.{arith}
use lib.ListN.{get_or, replicate}
use Rattle.text.proofs.PenLaws.{text_as}
use Rattle.books.specs.declared.Tally.{Tally}
use Rattle.day.specs.declared.Entry.{Entry}
use Rattle.day.specs.Lines.{row_with, day_lines, entries, whole_day}
use Rattle.day.proofs.LineLaws.{both_parts, none_yet, one_entry, no_more, entries_seven}
use Rattle.day.proofs.put_day.Goals as goal

pub loop-e-init : goal.loop-e-init
unfolding whole_day
loop-e-init c = none_yet _ (ap (λ (t : Tally). day_lines entries (replicate 4 (row_with 0 0 0)) t) c.empty-t.ensures)

pub loop-e-preserved : goal.loop-e-preserved
loop-e-preserved c =
    let i = c.loop-e.e-index in
    one_entry _ _ _ _ (omega (arith, entries_seven)) (ap (λ (l : List Entry). get_or l i _) c.entries.ensures) c.enter-entered.ensures.0 c.enter-entered.ensures.1
    (both_parts _ c.count-counted.ensures) c.loop-e.invariant c.put_entry.ensures c.put_counted.ensures

pub returns : goal.returns
returns c = text_as (omega arith) refl (no_more (omega (arith, entries_seven)) c.loop-e.invariant c.put_list.ensures c.put_tally.ensures)
