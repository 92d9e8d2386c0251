use Rattle.std.proofs.Common.{ℕ, sym}
use lib.ListN.{length-replicate}
use Rattle.replay.proofs.main.Goals as goal

-- The buffers' lengths, by the lemma: computing them would walk two million elements.
pub slice_bounds-play-end : goal.slice_bounds-play-end
slice_bounds-play-end c = sym (length-replicate {0} {A = ℕ} 131072 0)

pub slice_bounds-play-end-2 : goal.slice_bounds-play-end-2
slice_bounds-play-end-2 c = sym (length-replicate {0} {A = ℕ} 2097247 0)

pub slice_bounds-play-end-3 : goal.slice_bounds-play-end-3
slice_bounds-play-end-3 c = sym (length-replicate {0} {A = ℕ} 131167 0)
