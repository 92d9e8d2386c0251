use mathlib.Core.Path.{ap₂, ◌∙◌}
use native.Mathlib.Omega.{arith}
use Rattle.text.proofs.PenLaws.{then, text_as}
use Rattle.day.specs.Lines.{counted}
use Rattle.day.proofs.LineLaws.{both_as}
use Rattle.day.proofs.put_both_by_value.Goals as goal

pub returns : goal.returns
returns c =
    let passed = ap₂ counted c.is_some.ensures c.unwrap_or-u.ensures ∙ c.counted-passed.ensures in
    let refused = ap₂ counted c.is_some-2.ensures c.unwrap_or.ensures ∙ c.counted-refused.ensures in
    text_as (omega arith) (both_as _ passed refused) (then c.put_counted.ensures c.put_counted-2.ensures)
