use mathlib.Core.Path.{sym}
use borrow.Author.Tests.{lt-ltb, le-ltb}
use Rattle.books.proofs.DayLaws.{entered_on, entered_past}
use Rattle.books.proofs.enter.Goals as goal

pub returns-then-i-list : goal.returns-then-i-list
returns-then-i-list c =
    rw (← c.index-i.ensures) (sym (lt-ltb _ _ c.if-i-list.true), sym (entered_on _ c.args.row _ c.if-i-list.true))

pub returns : goal.returns
returns c =
    rw (← c.index-i.ensures) (sym (le-ltb _ _ c.if-i-list.false), sym (entered_past _ c.args.row _ c.if-i-list.false))
