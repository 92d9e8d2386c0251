-- A record as bytes: what was written is read back, wherever it lies, and what was read is written as the same bytes.
-- Assumes nothing.
use Prim.Native.Nat.{ℕ, ◌+◌, ◌≤◌, ◌<◌, ◌^◌}
use mathlib.Core.Path.{◌≡◌, sym, ap, ◌∙◌}
use mathlib.Core.List.{List, ◌++◌, append_assoc}
use native.Mathlib.Nat.{add-zero}
use native.Mathlib.Omega.{arith}
use lib.ListN.{length, take, drop, take-append-drop, length-append, length-drop}
use lib.Seq.{length-take-le}
use Rattle.octets.specs.Parts.{Bytes, field, pasted}
use Rattle.octets.specs.Numbers.{little_bytes}
use Rattle.octets.proofs.ByteLaws.{field_again}
use Rattle.octets.proofs.NumberLaws.{little_bytes_lem, little_bytes_length}
use Rattle.octets.proofs.PartLaws.{field_left, field_right, field_all, field_join, field_field, pasted_is, pasted_over}
use Rattle.tree.specs.declared.Tree.{Tree}
use Rattle.tree.specs.RecordBytes.{record_at, record_bytes}

pub record_long : (t : Tree) → length t.nodes ≡ 960 → length (record_bytes t) ≡ 964
record_long t h = omega (arith, length-append (little_bytes 4 t.leaves) t.nodes, little_bytes_length 4 t.leaves, h)

-- a record of the machine's own numbers is read back from between any bytes
module _ (at : ℕ) (t : Tree) (small : t.leaves < 2 ^ 32) (long : length t.nodes ≡ 960) where
  pub record_between : (p q : List ℕ) → length p ≡ at → record_at at (p ++ (record_bytes t ++ q)) ≡ t
  record_between p q h =
      let v = little_bytes 4 t.leaves in
      let n = t.nodes in
      let lv : length v ≡ 4 = little_bytes_length 4 t.leaves in
      let lr : length (v ++ n) ≡ 964 = record_long t long in
      let count : field at 4 (p ++ (v ++ n ++ q)) ≡ v =
      field_right at 0 4 p (v ++ n ++ q) (omega (arith, h)) ∙ field_left 0 4 (v ++ n) q (omega (arith, lr))
      ∙ field_left 0 4 v n (omega (arith, lv)) ∙ ap (λ (k : ℕ). field 0 k v) (sym lv) ∙ field_all v in
      let nodes : field (at + 4) 960 (p ++ (v ++ n ++ q)) ≡ n =
      field_right (at + 4) 4 960 p (v ++ n ++ q) (omega (arith, h)) ∙ field_left 4 960 (v ++ n) q (omega (arith, lr))
      ∙ field_right 4 0 960 v n (omega (arith, lv)) ∙ ap (λ (k : ℕ). field 0 k n) (sym long) ∙ field_all n in
      rw (count, nodes, little_bytes_lem 4 t.leaves small)

  -- and from where it was written
  pub record_back : (s : List ℕ) → at + 964 ≤ length s → record_at at (pasted at (record_bytes t) s) ≡ t
  record_back s h =
      let r = record_bytes t in
      rw (pasted_is at r s (omega (arith, record_long t long)))
      (record_between (take at s) (drop (at + length r) s) (length-take-le at s (omega arith)))

-- the other way round: a record is written as the very bytes that it was read from
pub record_again : (at : ℕ) (s : List ℕ) → Bytes s → record_bytes (record_at at s) ≡ field at 964 s
record_again at s h = rw (field_again at 4 s h) (field_join at 4 960 s)

-- of a part the same record is read as of the whole
pub record_part : (at : ℕ) (s : List ℕ) → record_at 0 (field at 964 s) ≡ record_at at s
record_part at s = rw (field_field at 964 0 4 s (omega arith), field_field at 964 4 960 s (omega arith), add-zero at)

-- two copies that touch are one
pub two_copies : (at next : ℕ) (a b s : List ℕ) → at + length a ≡ next → next + length b ≤ length s → pasted next b (pasted at a s) ≡ pasted at (a ++ b) s
two_copies at next a b s e h =
    let p = take at s in
    let d = drop at s in
    let o = take (length a) d in
    let k = drop (length a) d in
    let m = take (length b) k in
    let q = drop (length b) k in
    let ld = length-drop at s in
    let lp : length p ≡ at = length-take-le at s (omega arith) in
    let lo : length o ≡ length a = length-take-le (length a) d (omega (arith, ld)) in
    let lm : length m ≡ length b = length-take-le (length b) k (omega (arith, ld, length-drop (length a) d)) in
    let behind : d ≡ o ++ (m ++ q) = sym (take-append-drop (length a) d) ∙ ap (λ (x : List ℕ). o ++ x) (sym (take-append-drop (length b) k)) in
    let split : s ≡ p ++ (o ++ (m ++ q)) = sym (take-append-drop at s) ∙ ap (λ (x : List ℕ). p ++ x) behind in
    let one : pasted at a s ≡ p ++ a ++ (m ++ q) = ap (pasted at a) split ∙ pasted_over p o (m ++ q) a at lp lo ∙ sym (append_assoc p a (m ++ q)) in
    let both : pasted at (a ++ b) s ≡ p ++ (a ++ b ++ q) =
    ap (pasted at (a ++ b)) (split ∙ ap (λ (x : List ℕ). p ++ x) (sym (append_assoc o m q)))
    ∙ pasted_over p (o ++ m) q (a ++ b) at lp (omega (arith, length-append o m, length-append a b)) in
    ap (pasted next b) one ∙ pasted_over (p ++ a) m q b next (omega (arith, length-append p a)) lm
    ∙ append_assoc p a (b ++ q) ∙ ap (λ (x : List ℕ). p ++ x) (sym (append_assoc a b q)) ∙ sym both
