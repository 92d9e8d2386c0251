-- A ledger that is kept as bytes s: where the answer a accepts, they are those of the ledger l that comes after.
-- Assumes nothing.
use Rattle.std.specs.Prelude.{ℕ, cond, List}
use Rattle.refusals.specs.declared.Answer.{Answer}
use Rattle.refusals.specs.Rules.{is_accepted}
use Rattle.ledger.specs.declared.Ledger.{Ledger}
use Rattle.ledgerbytes.specs.LedgerBytes.{buffer_after_write}

unfoldable pub kept_after : Answer → Ledger → List ℕ → List ℕ
kept_after a l s = cond (is_accepted a) (buffer_after_write l s) s
