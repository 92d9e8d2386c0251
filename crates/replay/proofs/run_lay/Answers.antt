-- One return for each kind of entry, as for those that judge.
use Rattle.std.proofs.Common.{arith}
use Rattle.replay.proofs.KindLaws.{lay_given, lay_zeros, lay_table, lay_roll, lay_other}
use Rattle.replay.proofs.TurnLaws.{plays_as, plays_broken}
use Rattle.replay.proofs.run_lay.Goals as goal

pub returns-in-80 : goal.returns-in-80
returns-in-80 c = plays_as (lay_given _ _ _ _ _ c.in-80.is) c.run_plant.ensures

pub returns-in-75 : goal.returns-in-75
returns-in-75 c = plays_as (lay_zeros _ _ _ _ _ c.in-75.is) c.run_plant-in-75.ensures

pub returns-in-84 : goal.returns-in-84
returns-in-84 c = plays_as (lay_table _ _ _ _ _ c.in-84.is) c.run_table.ensures

pub returns-in-65 : goal.returns-in-65
returns-in-65 c = plays_as (lay_roll _ _ _ _ _ c.in-65.is) c.run_roll.ensures

pub returns-in_default : goal.returns-in_default
returns-in_default c =
    plays_as (lay_other _ _ _ _ _ (λ e. omega arith) (λ e. omega arith) (λ e. omega arith) (λ e. omega arith)) (plays_broken c.break_off.ensures.state_value c.break_off.ensures.wrote)
