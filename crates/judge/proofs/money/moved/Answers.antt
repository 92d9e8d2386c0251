use native.Mathlib.Omega.{arith}
use Rattle.ledger.specs.Ledgers.{pool_after}
use Rattle.ledger.proofs.Pools.{not_below, not_above}
use Rattle.judge.proofs.money.moved.Goals as goal

pub overflow_sub-p : goal.overflow_sub-p
overflow_sub-p c = omega (arith, not_below c.args.pool.0 c.args.old.0 c.args.new.0 c.requires)

pub overflow_add-p : goal.overflow_add-p
overflow_add-p c = record { fits = omega (arith, not_above c.args.pool.0 c.args.old.0 c.args.new.0 c.requires) }

pub returns-then-put-taken : goal.returns-then-put-taken
unfolding pool_after
returns-then-put-taken c = omega (arith, not_below c.args.pool.0 c.args.old.0 c.args.new.0 c.requires)

pub returns-else-put-taken : goal.returns-else-put-taken
unfolding pool_after
returns-else-put-taken c = omega arith
