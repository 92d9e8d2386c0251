use mathlib.Core.Path.{◌∙◌}
use borrow.Author.Rules.{rules}
use borrow.Author.Tests.{tests}
use Rattle.std.proofs.lemmas.Iterator.{YieldsList-from_slice}
use Rattle.std.proofs.lemmas.Iterator.Search.{any_from_yields_List}
use Rattle.std.specs.Ordering.{is_eq}
use Rattle.ledger.specs.Rows.{byte_order}
use Rattle.ledger.proofs.RowLaws.{any_among}
use Rattle.judge.proofs.roll.stands_on.Goals as goal

pub returns : goal.returns
returns c =
    let row = c.args.row.now in
    any_from_yields_List (λ x. is_eq (byte_order row x)) _ _ _ c.any.ensures.ran (YieldsList-from_slice c.args.rows.now (cc)) (λ x b q k. search (rules, tests))
    ∙ any_among row c.args.rows.now
