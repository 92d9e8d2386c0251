use mathlib.Core.Path.{◌≡◌}
use Prim.Native.Nat.{◌+◌, ◌-◌}
use native.Mathlib.Omega.{arith}
use Rattle.bag.specs.Contents.{body_of}
use Rattle.bag.proofs.body.Goals as goal

pub returns : goal.returns
unfolding body_of
returns c =
    let e = c.entry_at-e.result in
    let m : e.offset + e.size - e.offset ≡ e.size = omega arith in
    rw (m, c.entry_at-e.ensures)
