-- The tree record that a ledger keeps, and a path climbed: the trees of `nodes` in bytes.
-- Assumes nothing.
use Rattle.std.specs.Prelude.{ℕ, ◌+◌, cond, List, [], ◌∷◌, ltb}
use Rattle.octets.specs.Parts.{zeros, field}
use Rattle.octets.specs.Rows.{rows_of, flat}
use Rattle.units.specs.Limits.{tree_depth, tree_leaves}
use Rattle.nodes.specs.CommitmentTree.{parent_of, empty_leaf}
use Rattle.nodes.specs.Trees.{push, fold_of, up_of, climb_of}
use Rattle.tree.specs.declared.Tree.{Tree}

-- the record of no leaf
unfoldable pub fresh_of : Tree
fresh_of = record { leaves = 0; nodes = zeros 960 }

-- one leaf more; a full record stays as it is
unfoldable pub with_leaf_of : Tree → List ℕ → Tree
with_leaf_of t x =
    cond (ltb t.leaves tree_leaves) (record { leaves = t.leaves + 1; nodes = flat (push parent_of tree_depth t.leaves (rows_of 30 t.nodes) x) }) t

-- some leaves more, in order
unfoldable pub grown : Tree → List (List ℕ) → Tree
grown t [] = t
grown t (x ∷ xs) = grown (with_leaf_of t x) xs

-- the record's root
unfoldable pub record_root : Tree → List ℕ
record_root t = fold_of parent_of tree_depth t.leaves (rows_of 30 t.nodes) empty_leaf empty_leaf

-- one step up a path, from a node with its number, beside its sibling
unfoldable pub step_of : ℕ → List ℕ → List ℕ → List ℕ
step_of position node sibling = up_of parent_of position node sibling

-- where a path of 29 rows leads from a leaf; rows that are not there read as zeros
unfoldable pub path_end : List ℕ → ℕ → List ℕ → List ℕ
path_end leaf position path = climb_of parent_of leaf position (rows_of 29 (field 0 928 path))
