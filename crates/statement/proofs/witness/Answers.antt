use mathlib.Core.Path.{refl}
use Rattle.refusals.specs.Rules.{numbered}
use Rattle.refusals.proofs.RuleLaws.{refused_by, passed_by}
use Rattle.statement.specs.CaseRefusals.{no9, no10, witness_refusals}
use Rattle.statement.proofs.witness.Goals as goal

pub returns-in_err-ranges : goal.returns-in_err-ranges
unfolding witness_refusals
returns-in_err-ranges c = refused_by _ _ _ _ c.in_err-ranges.ensures c.from_residual.ensures

pub returns-in_err-paths : goal.returns-in_err-paths
unfolding witness_refusals numbered no9
returns-in_err-paths c = passed_by _ _ _ refl c.in_ok-ranges.ensures (refused_by _ _ _ _ c.in_err-paths.ensures c.from_residual-in_err-paths.ensures)

pub returns : goal.returns
unfolding witness_refusals numbered no9 no10
returns c = passed_by _ _ _ refl c.in_ok-ranges.ensures (passed_by _ _ _ refl c.in_ok-paths.ensures c.claims.ensures)
