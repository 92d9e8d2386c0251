use mathlib.Core.Path.{ap, ◌∙◌}
use lib.ListN.{length}
use Rattle.octets.proofs.RowLaws.{rows_length}
use Rattle.ledger.proofs.RowLaws.{rows_chunks}
use Rattle.judge.proofs.rows.rows_in.Goals as goal

pub returns : goal.returns
returns c =
    let a = c.args in
    let e = c.as_chunks.ensures.front ∙ rows_chunks a.count a.bytes.now c.requires in
    record { rows = e; len = ap length e ∙ rows_length a.count a.bytes.now }
