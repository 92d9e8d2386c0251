use Prim.Native.Nat.{ℕ, min, ◌*◌}
use mathlib.Core.Path.{ap, ◌∙◌}
use native.Mathlib.Omega.{arith}
use Rattle.octets.specs.Parts.{field}
use Rattle.nodes.proofs.Empties.{table, table_at}
use Rattle.nodes.proofs.empty_root.Goals as goal

pub returns : goal.returns
unfolding table
returns c = c.part.ensures ∙ ap (λ (k : ℕ). field (k * 32) 32 table) c.min.ensures ∙ table_at (min c.args.level 29) (omega arith)
