use mathlib.Core.Path.{◌≡◌, sym, ap, ap₂, ◌∙◌}
use mathlib.Core.Bool.{not}
use Rattle.octets.specs.Rows.{rows_of}
use Rattle.refusals.proofs.RuleLaws.{one_holds, one_fails}
use Rattle.casefile.specs.Fields.{anchor_of}
use Rattle.ledger.specs.Rows.{among}
use Rattle.ledger.specs.Ledgers.{anchor_rows, no6}
use Rattle.judge.proofs.asking.is_anchored.Goals as goal

pub returns-then-stands_on : goal.returns-then-stands_on
unfolding no6 anchor_rows
returns-then-stands_on c =
    let found : let a = c.args in
    c.stands_on.result ≡ among (anchor_of a.case.now) (rows_of a.counts.anchors a.roll.now) = let a = c.args in
    c.stands_on.ensures ∙ ap₂ among c.anchor-anchor.ensures c.rows_in.ensures.rows in
    one_fails _ 6 0 (ap not (sym (found) ∙ c.if-stands_on.true))

pub returns-else-stands_on : goal.returns-else-stands_on
unfolding no6 anchor_rows
returns-else-stands_on c =
    let found : let a = c.args in
    c.stands_on.result ≡ among (anchor_of a.case.now) (rows_of a.counts.anchors a.roll.now) = let a = c.args in
    c.stands_on.ensures ∙ ap₂ among c.anchor-anchor.ensures c.rows_in.ensures.rows in
    one_holds _ 6 0 (ap not (sym (found) ∙ c.if-stands_on.false))
