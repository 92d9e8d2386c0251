-- A path that is read from the part of the file that holds it leads where the path field's own bytes lead.
-- Assumes nothing.
use Prim.Native.Nat.{ℕ}
use mathlib.Core.Path.{◌≡◌, sym, ap, ◌∙◌}
use mathlib.Core.List.{List}
use Rattle.octets.specs.Parts.{field}
use Rattle.octets.specs.Rows.{rows_of}
use Rattle.octets.proofs.PartLaws.{field_all, field_length}
use Rattle.units.specs.declared.Which.{Which}
use Rattle.units.specs.declared.Which.TheVariants.{First, Second}
use Rattle.units.specs.Pairs.{number_of}
use Rattle.nodes.specs.CommitmentTree.{parent_of}
use Rattle.nodes.specs.Trees.{climb_of}
use Rattle.tree.specs.Record.{path_end}
use Rattle.casefile.specs.Layout.{description, old_note_lengths, new_note_lengths, lengths, offset, proof_length, part_of, present_of, of_old}
use Rattle.casefile.specs.Fields.{old_path_of}
use Rattle.casefile.proofs.LayoutLaws.{present_field}

pub path_bytes : (i : Which) (c : List ℕ) → field 0 928 (present_of (of_old (number_of i) 6) c) ≡ old_path_of (number_of i) c
unfolding old_path_of description old_note_lengths new_note_lengths lengths
path_bytes First c = present_field (of_old 1 6) c
path_bytes Second c = present_field (of_old 2 6) c

path_whole : (i : Which) (c : List ℕ) → field 0 928 (old_path_of (number_of i) c) ≡ old_path_of (number_of i) c
unfolding old_path_of part_of description old_note_lengths new_note_lengths lengths
path_whole First c = ap (λ (n : ℕ). field 0 n (old_path_of 1 c)) (sym (field_length (offset (proof_length c) 21) 928 c)) ∙ field_all (old_path_of 1 c)
path_whole Second c = ap (λ (n : ℕ). field 0 n (old_path_of 2 c)) (sym (field_length (offset (proof_length c) 28) 928 c)) ∙ field_all (old_path_of 2 c)

pub same_end : (i : Which) (c leaf : List ℕ) (position : ℕ)
    → path_end leaf position (present_of (of_old (number_of i) 6) c) ≡ path_end leaf position (old_path_of (number_of i) c)
unfolding path_end
same_end i c leaf position =
    ap (λ (p : List ℕ). climb_of parent_of leaf position (rows_of 29 p)) (path_bytes i c ∙ sym (path_whole i c))
