use mathlib.Core.Path.{refl}
use Rattle.tree.specs.Record.{fresh_of}
use Rattle.tree.proofs.Tree.fresh.Goals as goal

pub returns : goal.returns
unfolding fresh_of
returns c = refl
