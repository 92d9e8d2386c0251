-- After i turns the working vector is the definition's after i rounds.
use Rattle.std.proofs.Common.{◌≡◌, refl, arith, rules}
use Rattle.blake2b.specs.Compression.{rounds}
use Rattle.blake2b.proofs.Runs.{next_round}
use Rattle.blake2b.proofs.rounds.Goals as goal

pub loop-i-init : goal.loop-i-init
unfolding rounds
loop-i-init c = (search rules, refl)

pub loop-i-preserved : goal.loop-i-preserved
loop-i-preserved c = (search rules, next_round c.loop-i.i _ _ c.loop-i.v _ c.loop-i.invariant.1 c.round.ensures)

pub returns : goal.returns
returns c =
    let p = c.loop-i in
    let e : p.i ≡ 12 = omega arith in
    rw e at p.invariant.1
