-- A ledger's 988 bytes: nullifier count, anchor count, pool, and the tree's record. b is the bytes, l what a ledger keeps beside its table and its roll.
-- Assumes nothing.
use Rattle.std.specs.Prelude.{ℕ, ◌^◌, ◌<◌, ◌≡◌, Bool, cond, List, [], ◌++◌, eqb, length}
use Rattle.octets.specs.Parts.{field}
use Rattle.octets.specs.Numbers.{little, little_bytes}
use Rattle.tree.specs.RecordBytes.{record_at, record_bytes}
use Rattle.ledger.specs.declared.Ledger.{Ledger}
use Rattle.ledgerbytes.specs.declared.Counts.{Counts}

-- READING: the ledger that some bytes say, whether it can be or not; where they have ended they read as zeros
unfoldable pub ledger_of : List ℕ → Ledger
ledger_of b =
    record {
      nullifiers = little (field 0 8 b);
      anchors = little (field 8 8 b);
      tree = record_at 24 b;
      pool = record { 0 = little (field 16 8 b) };
    }

-- THE COUNTS of a ledger, all but its record's nodes; and a ledger that has them, and no node
abbrev pub counts_of : Ledger → Counts
counts_of l = record { nullifiers = l.nullifiers; anchors = l.anchors; leaves = l.tree.leaves; pool = l.pool }

abbrev pub bare : Counts → Ledger
bare c = record { nullifiers = c.nullifiers; anchors = c.anchors; tree = record { leaves = c.leaves; nodes = [] }; pool = c.pool }

-- WRITING: what stands before the record, and the whole
unfoldable pub head_of : Ledger → List ℕ
head_of l = little_bytes 8 l.nullifiers ++ little_bytes 8 l.anchors ++ little_bytes 8 l.pool.0

unfoldable pub ledger_bytes : Ledger → List ℕ
ledger_bytes l = head_of l ++ record_bytes l.tree

-- only into a buffer of just that length
abbrev pub ledger_length : ℕ
ledger_length = 988

abbrev pub is_whole : List ℕ → Bool
is_whole b = eqb (length b) ledger_length

unfoldable pub buffer_after_write : Ledger → List ℕ → List ℕ
buffer_after_write l b = cond (is_whole b) (ledger_bytes l) b

-- a ledger of the machine's own numbers, with a record of 960 bytes
pub record Fits (l : Ledger) : Type 0 where
  pub nullifiers : l.nullifiers < 2 ^ 64
  pub anchors : l.anchors < 2 ^ 64
  pub pool : l.pool.0 < 2 ^ 64
  pub leaves : l.tree.leaves < 2 ^ 32
  pub nodes : length l.tree.nodes ≡ 960
