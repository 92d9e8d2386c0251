use Rattle.std.proofs.Common.{arith}
use Rattle.blake2b.proofs.Lengths.{none, allowed}
use Rattle.blake2b.proofs.hash.Goals as goal

pub returns-then-length-eq0 : goal.returns-then-length-eq0
returns-then-length-eq0 c = none _ _ _ c.then-length-eq0.either

pub returns : goal.returns
returns c =
    let s = c.args in
    allowed s.length s.personal.now s.m.now _ _ _ (omega arith) (omega arith) c.initial.ensures c.absorb-h.ensures c.bytes-digest.ensures
