use lib.ListN.{length-replicate}
use mathlib.Core.Path.{sym}
use Prim.Native.Nat.{ℕ}
use Rattle.vectors.proofs.million.Goals as goal

-- The array's length, by the lemma: computing it would walk a million elements.
pub slice_bounds-sha-end-2 : goal.slice_bounds-sha-end-2
slice_bounds-sha-end-2 g c = sym (length-replicate {0} {A = ℕ} 1000000 97)
