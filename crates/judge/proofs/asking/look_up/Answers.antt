use mathlib.Core.Path.{ap, ap₂, ◌∙◌}
use Rattle.ledger.specs.Sorted.{rising, find}
use Rattle.ledger.specs.Rows.{byte_order}
use Rattle.ledger.specs.Ledgers.{spent_rows}
use Rattle.judge.proofs.asking.look_up.Goals as goal

pub search-requires : goal.search-requires
unfolding spent_rows
search-requires c = ap (rising byte_order) c.rows_in.ensures.rows ∙ c.requires.table_rises

pub returns : goal.returns
unfolding spent_rows
returns c = c.search.ensures ∙ ap₂ (find byte_order) c.nullifier-nullifier.ensures c.rows_in.ensures.rows
