use Rattle.std.proofs.Common.{ℕ, take, ap}
use Rattle.packing.specs.Words.{up_to}
use Rattle.packing.proofs.WordLaws.{place_is}
use Rattle.packing.proofs.up_to.Goals as goal

pub returns : goal.returns
unfolding up_to
returns c =
    let s = c.args.s.now in
    ap (λ (i : ℕ). take i s) (place_is c.args.x s _ c.place.ensures.within c.place.ensures.before c.place.ensures.found)
