use mathlib.Core.Path.{ap, ap₂, ◌∙◌}
use mathlib.Core.List.{List}
use Prim.Native.Nat.{ℕ, ◌+◌}
use native.Mathlib.Omega.{arith}
use Rattle.octets.specs.Parts.{field}
use Rattle.octets.proofs.PartLaws.{field_capped}
use Rattle.tree.specs.declared.Tree.{Tree}
use Rattle.tree.proofs.read_record.Goals as goal

abbrev made : ℕ → List ℕ → Tree
made n s = record { leaves = n; nodes = s }

pub returns : goal.returns
returns c =
    let a = c.args in
    let b = a.bytes.now in
    ap₂ made c.le32.ensures (c.part.ensures ∙ ap (λ (k : ℕ). field k 960 b) c.saturating_add.ensures ∙ field_capped (a.at + 4) _ 960 b (omega arith))
