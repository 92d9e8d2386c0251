use Rattle.std.proofs.Common.{sym, ◌∙◌, eqb-true}
use borrow.Author.Tests.{eqb-false}
use Rattle.replay.proofs.KindLaws.{other_bare, other_lay}
use Rattle.replay.proofs.TurnLaws.{plays_as}
use Rattle.replay.proofs.run_other.Goals as goal

pub returns-then-is_empty : goal.returns-then-is_empty
returns-then-is_empty c = plays_as (other_bare _ _ _ _ _ (eqb-true _ 0 (sym c.is_empty.ensures ∙ c.if-is_empty.true))) c.run_bare.ensures

pub returns : goal.returns
returns c = plays_as (other_lay _ _ _ _ _ (eqb-false _ 0 (sym c.is_empty.ensures ∙ c.if-is_empty.false))) c.run_lay.ensures
