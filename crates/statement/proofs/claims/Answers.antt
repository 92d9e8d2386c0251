use mathlib.Core.Path.{refl}
use Rattle.refusals.specs.Rules.{numbered}
use Rattle.refusals.proofs.RuleLaws.{refused_by, passed_by}
use Rattle.statement.specs.CaseRefusals.{no11, claim_refusals}
use Rattle.statement.proofs.claims.Goals as goal

pub returns-in_err-balance : goal.returns-in_err-balance
unfolding claim_refusals
returns-in_err-balance c = refused_by _ _ _ _ c.in_err-balance.ensures c.from_residual.ensures

pub returns : goal.returns
unfolding claim_refusals numbered no11
returns c = passed_by _ _ _ refl c.in_ok-balance.ensures c.derived.ensures
