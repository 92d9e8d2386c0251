use Rattle.octets.specs.Parts.{listed}
use Rattle.blake2b.specs.Compression.{iv, xored, word_at}
use Rattle.blake2b.proofs.Starting.{state_start}
use Rattle.blake2b.proofs.initial.Goals as goal

pub returns : goal.returns
unfolding iv xored listed word_at
returns c =
    let s = c.args in
    state_start s.length _ _ s.personal.now c.le64.ensures c.le64-2.ensures
