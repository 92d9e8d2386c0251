use Rattle.sha256.specs.Compression.{round_of, turned, T1, T2}
use Rattle.sha256.proofs.Sums.{five}
use Rattle.sha256.proofs.round.Goals as goal

pub returns : goal.returns
unfolding round_of turned T1 T2
returns c =
    let s = c.args.s in
    cc (five s.h c.big1.result c.ch.result c.args.k c.args.w)
