-- After i turns the state is that of the message's first i blocks; all blocks but the last one are turns, and the last one, padded and marked, is the law `final_block`.
use Rattle.std.proofs.Common.{◌≡◌}
use Rattle.blake2b.specs.Hashing.{blocks}
use Rattle.blake2b.proofs.absorb.Given as goal

abbrev pub invariant-loop-i : goal.invariant-loop-i
invariant-loop-i l = l.h ≡ blocks l.i l.initial.h l.m
