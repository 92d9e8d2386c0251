-- The number that all digits write is that which n and the digits that are left write. There is room for as many digits as are left.
use Rattle.std.proofs.Common.{sym, refl, ◌∙◌, arith}
use native.Mathlib.Nat.{sub-zero}
use Rattle.packing.proofs.DecimalLaws.{value_end, digit_low, digit_high, this_digit, below_most, turn}
use Rattle.packing.proofs.value_from.Goals as goal

pub loop-x-init : goal.loop-x-init
loop-x-init c = record { digits = c.requires.s_value; room = rw sub-zero c.requires.s_bound; value = refl }

pub overflow_mul-n : goal.overflow_mul-n
overflow_mul-n c =
    let p = c.loop-x in
    omega (arith, below_most _ _ p.n p.x-index (omega arith) p.invariant)

pub overflow_sub-n : goal.overflow_sub-n
overflow_sub-n c =
    let p = c.loop-x in
    omega (arith, c.from.ensures, digit_low _ (this_digit _ _ p.n p.x-index (omega arith) p.invariant))

pub overflow_add-n : goal.overflow_add-n
overflow_add-n c =
    let p = c.loop-x in
    omega (arith, c.from.ensures, below_most _ _ p.n p.x-index (omega arith) p.invariant, digit_high _ (this_digit _ _ p.n p.x-index (omega arith) p.invariant))

pub loop-x-preserved : goal.loop-x-preserved
loop-x-preserved c =
    let p = c.loop-x in
    rw c.from.ensures (turn _ _ p.n p.x-index (omega arith) p.invariant)

pub returns : goal.returns
returns c =
    let s = c.args.s.now in
    sym (c.loop-x.invariant.value ∙ value_end s c.loop-x.x-index c.loop-x.n (omega arith))
