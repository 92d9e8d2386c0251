-- What was written is read back: a ledger kept as bytes between two calls is the same ledger. And what was read is written as the same bytes.
-- Assumes nothing.
use Prim.Native.Nat.{ℕ, ◌+◌, ◌≤◌}
use mathlib.Core.Path.{◌≡◌, sym, ap, ◌∙◌}
use mathlib.Core.Bool.{true}
use mathlib.Core.List.{List, [], ◌++◌, append-nil}
use native.Mathlib.Omega.{arith}
use lib.ListN.{length, length-append}
use borrow.Author.Tests.{eqb-true}
use Rattle.octets.specs.Parts.{Bytes, field}
use Rattle.octets.specs.Numbers.{little_bytes}
use Rattle.octets.proofs.ByteLaws.{field_below, field_again}
use Rattle.octets.proofs.NumberLaws.{little_bytes_lem, little_bytes_length}
use Rattle.octets.proofs.PartLaws.{field_length, field_left, field_right, field_all, field_join}
use Rattle.tree.specs.RecordBytes.{record_at, record_bytes}
use Rattle.tree.proofs.RecordLaws.{record_long, record_between, record_again}
use Rattle.ledger.specs.declared.Ledger.{Ledger}
use Rattle.ledgerbytes.specs.LedgerBytes.{ledger_of, head_of, ledger_bytes, is_whole, Fits}

-- a part behind another
last : (at n : ℕ) (p s : List ℕ) → length p ≡ at → length s ≡ n → field at n (p ++ s) ≡ s
last at n p s hp hs = field_right at 0 n p s (omega arith) ∙ ap (λ (k : ℕ). field 0 k s) (sym hs) ∙ field_all s

-- the three numbers of the head, one behind the other, and whatever follows
module _ (a b c e : List ℕ) (ha : length a ≡ 8) (hb : length b ≡ 8) (hc : length c ≡ 8) where
  two : length (a ++ b) ≡ 16
  two = omega (arith, length-append a b)

  three : length (a ++ b ++ c) ≡ 24
  three = omega (arith, length-append (a ++ b) c, two)

  -- what lies within the first three, or the first two, is not touched by what follows
  in_three : (at : ℕ) → at + 8 ≤ 24 → field at 8 (a ++ b ++ c ++ e) ≡ field at 8 (a ++ b ++ c)
  in_three at h = field_left at 8 (a ++ b ++ c) e (omega (arith, three))

  in_two : (at : ℕ) → at + 8 ≤ 16 → field at 8 (a ++ b ++ c ++ e) ≡ field at 8 (a ++ b)
  in_two at h = in_three at (omega arith) ∙ field_left at 8 (a ++ b) c (omega (arith, two))

  part_1 : field 0 8 (a ++ b ++ c ++ e) ≡ a
  part_1 = in_two 0 (omega arith) ∙ field_left 0 8 a b (omega arith) ∙ ap (λ (k : ℕ). field 0 k a) (sym ha) ∙ field_all a

  part_2 : field 8 8 (a ++ b ++ c ++ e) ≡ b
  part_2 = in_two 8 (omega arith) ∙ last 8 8 a b ha hb

  part_3 : field 16 8 (a ++ b ++ c ++ e) ≡ c
  part_3 = in_three 16 (omega arith) ∙ last 16 8 (a ++ b) c two hc

head_long : (l : Ledger) → length (head_of l) ≡ 24
unfolding head_of
head_long l =
    three (little_bytes 8 l.nullifiers) (little_bytes 8 l.anchors) (little_bytes 8 l.pool.0) []
    (little_bytes_length 8 l.nullifiers) (little_bytes_length 8 l.anchors) (little_bytes_length 8 l.pool.0)

-- a ledger that fits takes 988 bytes
pub bytes_long : (l : Ledger) → Fits l → length (ledger_bytes l) ≡ 988
unfolding ledger_bytes
bytes_long l h = omega (arith, length-append (head_of l) (record_bytes l.tree), head_long l, record_long l.tree h.nodes)

-- the record behind the head
record_part : (l : Ledger) → Fits l → record_at 24 (head_of l ++ record_bytes l.tree) ≡ l.tree
record_part l h =
    ap (λ (r : List ℕ). record_at 24 (head_of l ++ r)) (sym (append-nil (record_bytes l.tree)))
    ∙ record_between 24 l.tree h.leaves h.nodes (head_of l) [] (head_long l)

-- the law
pub read_written : (l : Ledger) → Fits l → ledger_of (ledger_bytes l) ≡ l
unfolding ledger_of ledger_bytes head_of
read_written l h =
    let n = little_bytes 8 l.nullifiers in
    let a = little_bytes 8 l.anchors in
    let z = l.pool.0 in
    let p = little_bytes 8 z in
    let r = record_bytes l.tree in
    let hn = little_bytes_length 8 l.nullifiers in
    let ha = little_bytes_length 8 l.anchors in
    let hp = little_bytes_length 8 z in
    rw (part_1 n a p r hn ha hp, part_2 n a p r hn ha hp, part_3 n a p r hn ha hp, record_part l h, little_bytes_lem 8 l.nullifiers h.nullifiers, little_bytes_lem 8 l.anchors h.anchors, little_bytes_lem 8 z h.pool)

-- THE OTHER WAY ROUND
module _ (s : List ℕ) (h : Bytes s) where
  -- the ledger that some bytes say is one of the machine's own numbers
  pub read_fits : Fits (ledger_of s)
  unfolding ledger_of
  read_fits =
      record {
        nullifiers = field_below 0 8 s h;
        anchors = field_below 8 8 s h;
        pool = field_below 16 8 s h;
        leaves = field_below 24 4 s h;
        nodes = field_length 28 960 s;
      }

  -- and it is written as the very bytes that it was read from
  pub written_read : is_whole s ≡ true → ledger_bytes (ledger_of s) ≡ s
  unfolding ledger_of ledger_bytes head_of
  written_read w =
      rw (field_again 0 8 s h, field_again 8 8 s h, field_again 16 8 s h, record_again 24 s h, field_join 0 8 8 s, field_join 0 16 8 s, field_join 0 24 964 s)
      (ap (λ (n : ℕ). field 0 n s) (sym (eqb-true (length s) 988 w)) ∙ field_all s)
