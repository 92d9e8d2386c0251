-- A record's 964 bytes, wherever they lie: the leaf count in four, then the nodes.
-- Assumes nothing.
use Rattle.std.specs.Prelude.{ℕ, ◌+◌, List, ◌++◌}
use Rattle.octets.specs.Parts.{field}
use Rattle.octets.specs.Numbers.{little, little_bytes}
use Rattle.tree.specs.declared.Tree.{Tree}

-- READING: the record that the bytes of b from index at on say; where b has ended they read as zeros
abbrev pub record_at : ℕ → List ℕ → Tree
record_at at b = record { leaves = little (field at 4 b); nodes = field (at + 4) 960 b }

-- WRITING
abbrev pub record_bytes : Tree → List ℕ
record_bytes t = little_bytes 4 t.leaves ++ t.nodes
