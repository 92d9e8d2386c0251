use native.Mathlib.Omega.{arith}
use mathlib.Core.Path.{◌∙◌}
use borrow.Author.Tests.{lt-ltb}
use Rattle.ledger.proofs.Pools.{is_below, is_above, falls, rises}
use Rattle.judge.proofs.money.is_outside.Goals as goal

pub returns-then-p-fall : goal.returns-then-p-fall
returns-then-p-fall c =
    let a = c.args in
    lt-ltb _ _ c.if-p-fall.true ∙ is_below a.pool.0 a.old.0 a.new.0 (omega arith)

pub returns-else-p-fall : goal.returns-else-p-fall
returns-else-p-fall c =
    let a = c.args in
    rw (c.zatoshi-taken.ensures, c.zatoshi-put.ensures, c.zatoshi-p.ensures)
    (falls a.pool.0 a.old.0 a.new.0 (omega arith) (omega arith))

pub returns-then-p-gt-ALL_MONEY : goal.returns-then-p-gt-ALL_MONEY
returns-then-p-gt-ALL_MONEY c =
    let a = c.args in
    lt-ltb _ _ c.if-p-gt-ALL_MONEY.true ∙ is_above a.pool.0 a.old.0 a.new.0 (omega arith)

pub returns-else-p-gt-ALL_MONEY : goal.returns-else-p-gt-ALL_MONEY
returns-else-p-gt-ALL_MONEY c =
    let a = c.args in
    rw (c.zatoshi-taken.ensures, c.zatoshi-put.ensures, c.zatoshi-p.ensures)
    (rises a.pool.0 a.old.0 a.new.0 (omega arith) (omega arith))
