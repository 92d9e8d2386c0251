-- Each arm is computed from its kind and its tests; at the last one, of no kind, the byte is above 2.
use mathlib.Core.Path.{sym}
use lib.ListN.{get_or}
use borrow.Author.Tests.{eq-eqb, ne_eqb, lt-ltb}
use native.Mathlib.Omega.{arith}
use Rattle.seal.specs.Body.{is_broken, gate_of, unused_limit_set}
use Rattle.seal.proofs.read_gate.Goals as goal

pub returns-then-bytes-ne25 : goal.returns-then-bytes-ne25
unfolding is_broken
returns-then-bytes-ne25 c = simp (ne_eqb _ _ c.if-bytes-ne25.true)

pub returns-in-0 : goal.returns-in-0
unfolding is_broken gate_of unused_limit_set
returns-in-0 c = simp (eq-eqb _ _ c.if-bytes-ne25.false, c.in-0.is, sym c.if-is_zero_at.ensures, sym c.if-is_zero_at-2.ensures)

pub returns-in-1 : goal.returns-in-1
unfolding is_broken gate_of unused_limit_set
returns-in-1 c = simp (eq-eqb _ _ c.if-bytes-ne25.false, c.in-1.is, sym c.if-is_zero_at-3.ensures, c.float_at.ensures)

pub returns-in-2 : goal.returns-in-2
unfolding is_broken gate_of unused_limit_set
returns-in-2 c = simp (eq-eqb _ _ c.if-bytes-ne25.false, c.in-2.is, c.float_at-in-2.ensures, c.float_at-in-2-2.ensures)

pub returns-in_default : goal.returns-in_default
unfolding is_broken unused_limit_set
returns-in_default c = simp (eq-eqb _ _ c.if-bytes-ne25.false, c.in-0.is, sym c.if-is_zero_at.ensures, sym c.if-is_zero_at-2.ensures)

pub returns-in_default-2 : goal.returns-in_default-2
unfolding is_broken unused_limit_set
returns-in_default-2 c = simp (eq-eqb _ _ c.if-bytes-ne25.false, c.in-0.is, sym c.if-is_zero_at.ensures)

pub returns-in_default-3 : goal.returns-in_default-3
unfolding is_broken unused_limit_set
returns-in_default-3 c = simp (eq-eqb _ _ c.if-bytes-ne25.false, c.in-1.is, sym c.if-is_zero_at-3.ensures)

pub returns-in_default-4 : goal.returns-in_default-4
unfolding is_broken
returns-in_default-4 c = simp (eq-eqb _ _ c.if-bytes-ne25.false, lt-ltb 2 (get_or c.args.bytes.now 0 0) (omega arith))
