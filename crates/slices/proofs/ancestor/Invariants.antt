-- After each turn the number is the position, halved as often as turns were made.
use mathlib.Core.Path.{◌≡◌}
use Prim.Native.Nat.{◌-◌, ◌/◌, ◌^◌, ◌≤◌}
use Rattle.slices.proofs.ancestor.Given as goal

abbrev pub invariant-loop : goal.invariant-loop
invariant-loop l = (l.counter ≤ l.levels) × (l.p.0 ≡ l.initial.p.0 / 2 ^ l.counter)

abbrev pub decreases-loop : goal.decreases-loop
decreases-loop l = l.levels - l.counter
