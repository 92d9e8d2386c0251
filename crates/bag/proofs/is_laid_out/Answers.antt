use mathlib.Core.Path.{sym}
use borrow.Author.Tests.{le-leb, lt-leb}
use Rattle.bag.specs.Contents.{laid_out}
use Rattle.bag.proofs.is_laid_out.Goals as goal

pub returns-then-bag-gt-MOST_BYTES : goal.returns-then-bag-gt-MOST_BYTES
unfolding laid_out
returns-then-bag-gt-MOST_BYTES c = simp (lt-leb _ _ c.if-bag-gt-MOST_BYTES.true)

pub returns-then-n-lt1 : goal.returns-then-n-lt1
unfolding laid_out
returns-then-n-lt1 c = simp (sym c.row_count-n.ensures, le-leb _ _ c.if-bag-gt-MOST_BYTES.false, lt-leb _ _ c.if-n-lt1.true)

pub returns-then-n-gt-MOST_ROWS : goal.returns-then-n-gt-MOST_ROWS
unfolding laid_out
returns-then-n-gt-MOST_ROWS c = simp (sym c.row_count-n.ensures, le-leb _ _ c.if-bag-gt-MOST_BYTES.false, le-leb _ _ c.if-n-lt1.false, lt-leb _ _ c.if-n-gt-MOST_ROWS.true)

pub returns : goal.returns
unfolding laid_out
returns c = simp (sym c.row_count-n.ensures, le-leb _ _ c.if-bag-gt-MOST_BYTES.false, le-leb _ _ c.if-n-lt1.false, le-leb _ _ c.if-n-gt-MOST_ROWS.false, c.is_in_order.ensures)
