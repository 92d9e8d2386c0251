use Prim.Native.Nat.{ℕ}
use mathlib.Core.Path.{ap}
use Rattle.day.specs.Lines.{entry}
use Rattle.day.proofs.entry_at.Goals as goal

pub returns : goal.returns
returns c =
    let s = c.args in
    ap (λ (x : ℕ). entry x s.seal s.answer s.place) c.of.ensures
