use Rattle.tree.specs.declared.Tree.{Tree}
use mathlib.Core.Path.{ap₂}
use Prim.Native.Nat.{ℕ}
use Rattle.ledger.specs.Ledgers.{empty_ledger}
use Rattle.judge.proofs.start.Goals as goal

pub returns : goal.returns
unfolding empty_ledger
returns c =
    ap₂ (λ (t : Tree) (n : ℕ). record { nullifiers = 0; anchors = c.args.anchors; tree = t; pool = record { 0 = n } })
    c.fresh.ensures c.of.ensures
