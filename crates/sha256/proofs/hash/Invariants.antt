-- After i turns the state is that of the message's first i whole blocks; what is left after the loop, with its padding, is one or two blocks, which `finish` adds.
use mathlib.Core.Path.{◌≡◌}
use Rattle.sha256.specs.Compression.{start_of}
use Rattle.sha256.specs.Hash.{blocks}
use Rattle.sha256.proofs.hash.Given as goal

abbrev pub invariant-loop-block : goal.invariant-loop-block
invariant-loop-block l = l.s ≡ blocks l.block-index start_of l.m
