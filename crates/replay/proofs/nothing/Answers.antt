use Rattle.std.proofs.Common.{ℕ, ap₂}
use Rattle.tree.specs.declared.Tree.{Tree}
use Rattle.ledger.specs.Ledgers.{empty_ledger}
use Rattle.replay.proofs.nothing.Goals as goal

pub returns : goal.returns
unfolding empty_ledger
returns c =
    ap₂ (λ (t : Tree) (n : ℕ). record { on = c.args.on; ledger = record { nullifiers = 0; anchors = 0; tree = t; pool = record { 0 = n } }; table = 0; roll = 0 })
    c.fresh.ensures c.of.ensures
