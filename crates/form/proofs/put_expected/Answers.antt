use mathlib.Core.Path.{sym}
use mathlib.Core.List.{append_assoc}
use native.Mathlib.Omega.{arith}
use borrow.Author.Tests.{lt-ltb, le-ltb}
use Rattle.text.proofs.PenLaws.{then, text_as}
use Rattle.form.specs.Faults.{field_words}
use Rattle.form.proofs.put_expected.Goals as goal

pub returns-then-k-lt-COUNT : goal.returns-then-k-lt-COUNT
unfolding field_words
returns-then-k-lt-COUNT g c =
    text_as (omega arith) (rw (lt-ltb _ 28 c.if-k-lt-COUNT.true, sym c.kind_of.ensures) (simp append_assoc))
    (then c.put_name.ensures (then c.put.ensures c.put_kind.ensures))

pub returns-else-k-lt-COUNT : goal.returns-else-k-lt-COUNT
unfolding field_words
returns-else-k-lt-COUNT g c = text_as (omega arith) (rw (le-ltb _ 28 c.if-k-lt-COUNT.false)) c.put-else-k-lt-COUNT.ensures
