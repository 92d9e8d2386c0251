-- After i turns the state is the definition's after 8 i rounds, since each turn makes eight; after 8 turns these are all 64.
use mathlib.Core.Path.{◌≡◌}
use Prim.Native.Nat.{◌*◌}
use lib.ListN.{length}
use Rattle.sha256.specs.Compression.{k_list, rounds}
use Rattle.sha256.proofs.rounds.Given as goal

abbrev pub invariant-loop-k : goal.invariant-loop-k
invariant-loop-k l = l.t ≡ rounds (length l.yielded * 8) k_list l.w l.initial.t
