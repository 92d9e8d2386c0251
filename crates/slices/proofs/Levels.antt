-- The nodes of a path, level by level: each is the parent of the one below, the first is the commitment's and the last the path's end.
-- Assumes nothing.
use Prim.Native.Nat.{ℕ, zero, suc, ◌+◌, ◌*◌, ◌/◌, ◌%◌, ◌^◌, ◌<◌}
use mathlib.Core.Path.{◌≡◌, refl, sym, ap, ◌∙◌}
use mathlib.Core.List.{List, []}
use native.Mathlib.Omega.{arith}
use lib.ListN.{length}
use Rattle.octets.specs.Parts.{field}
use Rattle.octets.specs.Rows.{rows_of}
use Rattle.octets.proofs.PartLaws.{field_length, field_field}
use Rattle.octets.proofs.RowLaws.{rows_length, rows_field, take_rows}
use Rattle.units.specs.declared.Which.{Which}
use Rattle.units.specs.Pairs.{number_of}
use Rattle.nodes.specs.CommitmentTree.{parent_of}
use Rattle.nodes.specs.Trees.{on_bit, up_of, climb_of}
use Rattle.nodes.proofs.TreeLaws.{climb_next}
use Rattle.nodes.proofs.Empties.{parent_length}
use Rattle.tree.specs.Record.{step_of, path_end}
use Rattle.casefile.specs.Layout.{present_of, of_old}
use Rattle.casefile.specs.Fields.{old_position_of, old_path_of}
use Rattle.statement.specs.CaseRefusals.{old_commitment_of, path_end_of}
use Rattle.statement.proofs.PathLaws.{path_bytes}
use Rattle.slices.specs.Steps.{level_of, parent_on}

-- a path's row, read from the path's bytes, and from the part of the file that holds the path
row_in : (s : List ℕ) (k : ℕ) → k < 29 → field (k * 32) 32 (field 0 928 s) ≡ field (k * 32) 32 s
row_in s k h = field_field 0 928 (k * 32) 32 s (omega (arith, h)) ∙ ap (λ (n : ℕ). field n 32 s) (omega arith)

pub sibling : (i : Which) (c : List ℕ) (k : ℕ) → k < 29 → field (k * 32) 32 (present_of (of_old (number_of i) 6) c) ≡ field (k * 32) 32 (old_path_of (number_of i) c)
sibling i c k h =
    let p = present_of (of_old (number_of i) 6) c in
    sym (row_in p k h) ∙ ap (field (k * 32) 32) (path_bytes i c)

-- one step up gives 32 bytes
step_32 : (p : ℕ) (x s : List ℕ) → length (step_of p x s) ≡ 32
unfolding step_of up_of
step_32 p x s = go (p % 2)
  where
    go : (n : ℕ) → length (on_bit n (parent_of x s) (parent_of s x)) ≡ 32
    go zero = parent_length x s
    go (suc n) = parent_length s x

module _ (i : ℕ) (c : List ℕ) where
  abbrev rows : List (List ℕ)
  rows = rows_of 29 (field 0 928 (old_path_of i c))

  pub parent_32 : (k : ℕ) (x : List ℕ) → length (parent_on k i c x) ≡ 32
  unfolding parent_on
  parent_32 k x = step_32 (old_position_of i c / 2 ^ k) x (field (k * 32) 32 (old_path_of i c))

  pub level_first : level_of 0 i c ≡ old_commitment_of i c
  unfolding level_of climb_of
  level_first = refl

  pub level_next : (k : ℕ) → k < 29 → level_of (k + 1) i c ≡ parent_on k i c (level_of k i c)
  unfolding level_of parent_on step_of
  level_next k h =
      climb_next parent_of [] (old_commitment_of i c) (old_position_of i c) k rows (omega (arith, h, rows_length 29 (field 0 928 (old_path_of i c))))
      ∙ ap (up_of parent_of (old_position_of i c / 2 ^ k) (level_of k i c))
      (rows_field 29 k (field 0 928 (old_path_of i c)) h (omega (arith, field_length 0 928 (old_path_of i c))) ∙ row_in (old_path_of i c) k h)

  pub level_last : level_of 29 i c ≡ path_end_of i c
  unfolding level_of path_end_of path_end
  level_last = ap (climb_of parent_of (old_commitment_of i c) (old_position_of i c)) (take_rows 29 29 (field 0 928 (old_path_of i c)) (omega arith))
