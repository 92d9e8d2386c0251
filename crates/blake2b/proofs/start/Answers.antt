use Rattle.std.proofs.Common.{arith}
use Rattle.octets.specs.Parts.{listed, field}
use Rattle.blake2b.specs.Compression.{iv, xored}
use Rattle.blake2b.proofs.Starting.{vector_start}
use Rattle.blake2b.proofs.start.Goals as goal

pub returns : goal.returns
unfolding iv xored field listed
returns c =
    let a = c.args in
    vector_start a.h.now a.t a.last _ (omega arith) c.flag.ensures
