use mathlib.Core.Path.{◌≡◌, ap, ◌∙◌}
use Prim.Native.Nat.{ℕ, ◌+◌, ◌≤◌}
use mathlib.Core.List.{List}
use native.Mathlib.Omega.{arith}
use Rattle.octets.specs.Parts.{field}
use Rattle.octets.specs.Numbers.{little}
use Rattle.octets.proofs.PartLaws.{field_field}
use Rattle.ledgerbytes.specs.LedgerBytes.{ledger_of}
use Rattle.ledgerbytes.proofs.read_counts.Goals as goal

-- a number of the head, which is the first 28 bytes
in_head : (at n x : ℕ) (h b : List ℕ) → at + n ≤ 28 → h ≡ field 0 28 b → x ≡ little (field at n h) → x ≡ little (field (0 + at) n b)
in_head at n x h b l e p = p ∙ ap (λ (s : List ℕ). little (field at n s)) e ∙ ap little (field_field 0 28 at n b l)

pub returns : goal.returns
unfolding ledger_of
returns c =
    let b = c.args.bytes.now in
    let nullifiers = in_head 0 8 _ _ b (omega arith) c.part-head.ensures c.le64.ensures in
    let anchors = in_head 8 8 _ _ b (omega arith) c.part-head.ensures c.le64-2.ensures in
    let leaves = in_head 24 4 _ _ b (omega arith) c.part-head.ensures c.le32.ensures in
    let pool = in_head 16 8 _ _ b (omega arith) c.part-head.ensures c.le64-3.ensures in
    rw (c.of.ensures, nullifiers, anchors, leaves, pool)
