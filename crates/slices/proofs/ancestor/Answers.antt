-- After each turn the number is the position, halved as often as turns were made.
use mathlib.Core.Path.{ap, ◌∙◌}
use Prim.Native.Nat.{ℕ, ◌/◌, ◌^◌}
use native.Mathlib.Omega.{arith}
use lib.Pow.{shr-shr}
use Rattle.slices.proofs.ancestor.Goals as goal

pub loop-init : goal.loop-init
loop-init c = (omega arith, omega arith)

pub loop-preserved : goal.loop-preserved
loop-preserved c = (omega arith, c.parent-p.ensures ∙ ap (λ (q : ℕ). q / 2) c.loop.invariant.1 ∙ shr-shr c.args.position.0 c.loop.counter 1)

pub returns : goal.returns
returns c = c.loop.invariant.1 ∙ ap (λ (k : ℕ). c.args.position.0 / 2 ^ k) (omega arith)
