use native.Mathlib.Omega.{arith}
use Rattle.casefile.proofs.spot.Goals as goal

pub returns-in-Second : goal.returns-in-Second
returns-in-Second c =
    record {
      value = simp c.in-Second.is;
      upper_bound = omega arith;
    }
