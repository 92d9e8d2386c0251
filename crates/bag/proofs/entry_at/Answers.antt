use native.Mathlib.Nat.{add-zero}
use Rattle.bag.specs.Contents.{entry_of}
use Rattle.bag.proofs.entry_at.Goals as goal

pub returns : goal.returns
unfolding entry_of
returns c = simp (c.byte_from.ensures, c.le32.ensures, c.le32-2.ensures, add-zero)
