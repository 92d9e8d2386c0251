use mathlib.Core.Path.{ap}
use mathlib.Core.List.{List}
use Prim.Native.Nat.{ℕ}
use lib.Dec.{eqb}
use lib.ListN.{length}
use Rattle.form.specs.Forms.{is_passed_over}
use Rattle.form.proofs.is_passed_over.Goals as goal

pub returns : goal.returns
unfolding is_passed_over
returns c = ap (λ (w : List ℕ). eqb (length w) 0) c.word-first.ensures
