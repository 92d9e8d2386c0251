-- One return for each kind of entry; for each, a law says that the definition takes that branch, and the callee's promise is what the branch asks.
use Rattle.std.proofs.Common.{arith}
use Rattle.replay.proofs.KindLaws.{entry_open, entry_case, entry_desk, entry_seal, entry_name, entry_other}
use Rattle.replay.proofs.TurnLaws.{plays_as}
use Rattle.replay.proofs.run.Goals as goal

pub returns-in-79 : goal.returns-in-79
returns-in-79 c = plays_as (entry_open _ _ _ _ _ c.in-79.is) c.run_open.ensures

pub returns-in-67 : goal.returns-in-67
returns-in-67 c = plays_as (entry_case _ _ _ _ _ c.in-67.is) c.run_case.ensures

pub returns-in-68 : goal.returns-in-68
returns-in-68 c = plays_as (entry_desk _ _ _ _ _ c.in-68.is) c.run_desk.ensures

pub returns-in-83 : goal.returns-in-83
returns-in-83 c = plays_as (entry_seal _ _ _ _ _ c.in-83.is) c.run_seal.ensures

pub returns-in-78 : goal.returns-in-78
returns-in-78 c = plays_as (entry_name _ _ _ _ _ c.in-78.is) c.run_name.ensures

pub returns-in_default : goal.returns-in_default
returns-in_default c =
    plays_as (entry_other _ _ _ _ _ (λ e. omega arith) (λ e. omega arith) (λ e. omega arith) (λ e. omega arith) (λ e. omega arith)) c.run_other.ensures
