use Rattle.std.proofs.Common.{append-nil}
use Rattle.blake2b.specs.Hashing.{blake2b_of}
use Rattle.blake2b.proofs.hash32.Goals as goal

pub returns : goal.returns
unfolding blake2b_of
returns c = rw (c.bytes.ensures, append-nil, c.absorb-h.ensures, c.initial.ensures)
