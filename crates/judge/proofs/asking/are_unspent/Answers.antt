-- What the search answers of each nullifier gives the answer, by the laws of refusal 8; an empty table has neither.
use mathlib.Core.Path.{sym, ◌∙◌}
use Rattle.octets.specs.Rows.{rows_of}
use Rattle.refusals.specs.Rules.{first}
use Rattle.ledger.specs.Rows.{among}
use Rattle.ledger.specs.Ledgers.{spent_rows, no8}
use Rattle.ledger.proofs.Spent.{first_spent, second_spent, none_spent}
use Rattle.judge.proofs.asking.are_unspent.Goals as goal

pub returns-then-counts-eq0 : goal.returns-then-counts-eq0
unfolding no8 first spent_rows rows_of among
returns-then-counts-eq0 c = rw c.if-counts-eq0.true

pub returns-in-Ok : goal.returns-in-Ok
returns-in-Ok c = first_spent _ _ _ _ c.requires.table_rises c.in-Ok.row (sym c.in-Ok.is ∙ c.look_up.ensures)

pub returns-in-Ok-look_up : goal.returns-in-Ok-look_up
returns-in-Ok-look_up c =
    second_spent _ _ _ _ c.requires.table_rises c.in_default.field-0 c.in-Ok-look_up.row (sym c.in_default.is ∙ c.look_up.ensures) (sym c.in-Ok-look_up.is ∙ c.look_up-2.ensures)

pub returns-in-Err : goal.returns-in-Err
returns-in-Err c =
    none_spent _ _ _ _ c.requires.table_rises c.in_default.field-0 c.in-Err.field-0 (sym c.in_default.is ∙ c.look_up.ensures) (sym c.in-Err.is ∙ c.look_up-2.ensures)
