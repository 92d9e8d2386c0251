use Rattle.std.proofs.Common.{◌∙◌, arith}
use Rattle.packing.proofs.VerdictLaws.{too_many, by_line}
use Rattle.packing.proofs.verdict.Goals as goal

pub returns-then-cases-gt7 : goal.returns-then-cases-gt7
returns-then-cases-gt7 c = too_many _ _ _ _ (λ e. omega (arith, c.requires)) c.if-cases-gt7.true

pub returns : goal.returns
returns c = c.line_verdict.ensures ∙ by_line _ _ _ _ (λ e. omega (arith, c.requires)) c.if-cases-gt7.false
