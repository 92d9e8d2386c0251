-- Each return of the code is one of three laws over any pair of tests: the first applies, the second does, or none.
use mathlib.Core.Path.{sym, ◌∙◌}
use Rattle.refusals.proofs.RuleLaws.{each_first, each_second, each_none}
use Rattle.statement.specs.Claims.{claim_wrong, claim_number}
use Rattle.statement.proofs.pair.Goals as goal

pub returns-then-is_wrong : goal.returns-then-is_wrong
returns-then-is_wrong c =
    let a = c.args in
    c.refusal.ensures
    ∙ each_first (claim_wrong a.claim a.h.now a.case.now) (claim_number a.claim) (sym c.is_wrong.ensures ∙ c.if-is_wrong.true)

pub returns-then-is_wrong-2 : goal.returns-then-is_wrong-2
returns-then-is_wrong-2 c =
    let a = c.args in
    c.refusal-then-is_wrong-2.ensures
    ∙ each_second (claim_wrong a.claim a.h.now a.case.now) (claim_number a.claim) (sym c.is_wrong.ensures ∙ c.if-is_wrong.false) (sym c.is_wrong-2.ensures ∙ c.if-is_wrong-2.true)

pub returns : goal.returns
returns c =
    let a = c.args in
    each_none (claim_wrong a.claim a.h.now a.case.now) (claim_number a.claim) (sym c.is_wrong.ensures ∙ c.if-is_wrong.false) (sym c.is_wrong-2.ensures ∙ c.if-is_wrong-2.false)
