use mathlib.Core.Path.{◌≡◌}
use native.Mathlib.Omega.{arith}
use borrow.Author.Tests.{ne_eqb}
use Rattle.text.specs.Answers.{spent_row_line}
use Rattle.text.proofs.PenLaws.{start, then, text_as}
use Rattle.text.proofs.Page.put_spent_row.Goals as goal

pub returns-then-a-eq8 : goal.returns-then-a-eq8
unfolding spent_row_line
returns-then-a-eq8 g c =
    let h : c.args.a.number ≡ 8 = omega (arith, c.if-a-eq8.true) in
    text_as (omega arith) (rw (h, c.index.ensures)) (then c.put_count.ensures c.put.ensures)

pub returns-else-a-eq8 : goal.returns-else-a-eq8
unfolding spent_row_line
returns-else-a-eq8 g c = text_as (omega arith) (rw (ne_eqb _ 8 c.if-a-eq8.false)) (start _)
