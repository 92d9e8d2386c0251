-- The number that all digits write is that which n and the digits that are left write. There is room for as many digits as are left.
use Rattle.packing.proofs.DecimalLaws.{Left}
use Rattle.packing.proofs.value_from.Given as goal

abbrev pub invariant-loop-x : goal.invariant-loop-x
invariant-loop-x l = Left l.v l.s l.n l.x-index
