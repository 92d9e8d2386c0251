-- Count and nodes are two copies side by side, which are one copy of the record's bytes; where that does not fit, nothing is written.
use Prim.Native.Nat.{ℕ, ◌+◌, ◌≤◌, ◌<◌}
use mathlib.Core.Path.{◌≡◌, sym, ap, ◌∙◌}
use mathlib.Core.Bool.{true, false}
use mathlib.Core.List.{List}
use native.Mathlib.Omega.{arith}
use borrow.Author.Tests.{le-leb, lt-leb}
use lib.ListN.{length}
use Rattle.octets.specs.Parts.{fits_in, pasted}
use Rattle.octets.specs.Numbers.{little_bytes}
use Rattle.std.specs.Int.{w32}
use Rattle.octets.proofs.WordLaws.{little_to}
use Rattle.octets.proofs.NumberLaws.{little_bytes_length}
use Rattle.octets.proofs.PartLaws.{pasted_not}
use Rattle.tree.specs.declared.Tree.{Tree}
use Rattle.tree.specs.RecordBytes.{record_bytes}
use Rattle.tree.proofs.RecordLaws.{record_long, two_copies}
use borrow.Author.Rules.{rules}
use Rattle.tree.proofs.write_record.Goals as goal
use Rattle.tree.proofs.write_record.Goals.{then-bytes-lt-RECORD_LENGTH-via-then-bytes-lt-RECORD_LENGTH, then-bytes-lt-RECORD_LENGTH-via-else-bytes-lt-RECORD_LENGTH+then-bytes-at}

module _ (at : ℕ) (t : Tree) (b : List ℕ) (long : length t.nodes ≡ 960) where
  refused : length b < at + 964 → (false ≡ fits_in at (record_bytes t) b) × (b ≡ pasted at (record_bytes t) b)
  unfolding fits_in
  refused h =
      let k : length b < at + length (record_bytes t) = omega (arith, record_long t long) in
      (sym (lt-leb (at + length (record_bytes t)) (length b) k), sym (pasted_not at (record_bytes t) b k))

  written : (v m n : List ℕ) → at + 964 ≤ length b → v ≡ little_bytes 4 t.leaves → m ≡ pasted at v b → n ≡ pasted (at + 4) t.nodes m
      → (true ≡ fits_in at (record_bytes t) b) × (n ≡ pasted at (record_bytes t) b)
  unfolding fits_in
  written v m n h ev em en =
      let lv : length v ≡ 4 = ap length ev ∙ little_bytes_length 4 t.leaves in (
        sym (le-leb (at + length (record_bytes t)) (length b) (omega (arith, record_long t long))),
        en ∙ ap (pasted (at + 4) t.nodes) em ∙ two_copies at (at + 4) v t.nodes b (omega arith) (omega arith) ∙ rw ev,
      )

pub returns-then-bytes-lt-RECORD_LENGTH : goal.returns-then-bytes-lt-RECORD_LENGTH
returns-then-bytes-lt-RECORD_LENGTH c =
    let long : length c.args.tree.nodes ≡ 960 = search rules in
    let short : length c.args.bytes.now < c.args.at + 964 =
    elim c.then-bytes-lt-RECORD_LENGTH.branch [
      | then-bytes-lt-RECORD_LENGTH-via-then-bytes-lt-RECORD_LENGTH w ↦ omega arith
      | then-bytes-lt-RECORD_LENGTH-via-else-bytes-lt-RECORD_LENGTH+then-bytes-at w ↦ omega arith
    ] in
    let both = refused c.args.at c.args.tree c.args.bytes.now long short in
    record {
      value = both.0;
      bytes_after = both.1;
    }

pub returns : goal.returns
returns c =
    let long : length c.args.tree.nodes ≡ 960 = search rules in
    let leaves = c.to_le_bytes.ensures ∙ little_to w32 c.args.tree.leaves in
    let both = written c.args.at c.args.tree c.args.bytes.now long c.to_le_bytes.result _ _ (omega arith) leaves c.copy_in.ensures.dst_after c.copy_in-2.ensures.dst_after in
    record {
      value = both.0;
      bytes_after = both.1;
    }
