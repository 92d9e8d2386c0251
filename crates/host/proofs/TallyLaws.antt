-- The tally in 12 bytes is the tally of `books`: read back after a call it is the one that `books` gives.
-- Assumes nothing.
use Prim.Native.Nat.{ℕ, ◌+◌, ◌<◌, ◌^◌}
use mathlib.Core.Path.{◌≡◌, refl, sym, ap, ◌∙◌}
use mathlib.Core.Bool.{Bool, true, false, ◌||◌, true≢false}
use mathlib.Core.List.{List, ◌++◌}
use native.Mathlib.Omega.{arith}
use borrow.Author.Tests.{leb-false}
use lib.Dec.{eqb}
use lib.ListN.{length-append}
use Rattle.octets.specs.Parts.{Bytes, field}
use Rattle.octets.specs.Numbers.{little_bytes}
use Rattle.octets.proofs.ByteLaws.{field_below}
use Rattle.octets.proofs.NumberLaws.{little_bytes_lem, little_bytes_length}
use Rattle.octets.proofs.PartLaws.{field_left, field_right, field_all}
use Rattle.refusals.proofs.RuleLaws.{by_test}
use Rattle.books.specs.declared.Tally.{Tally}
use Rattle.books.specs.Tally.{full, is_full, count_of, raised, tally_of}
use Rattle.host.specs.Answers.{is_long}
use Rattle.host.specs.Books.{tally_in, tally_bytes, counted_in, tally_answer, tally_after}

-- three counts of 32 bits are read back
record Counts (t : Tally) : Type 0 where
  seen : t.seen < 2 ^ 32
  passed : t.passed < 2 ^ 32
  refused : t.refused < 2 ^ 32

tally_read : (t : Tally) → Counts t → tally_in (tally_bytes t) ≡ t
unfolding tally_in tally_bytes
tally_read t h =
    let a = little_bytes 4 t.seen in
    let b = little_bytes 4 t.passed in
    let c = little_bytes 4 t.refused in
    let ha = little_bytes_length 4 t.seen in
    let hb = little_bytes_length 4 t.passed in
    let hc = little_bytes_length 4 t.refused in
    let hab = length-append a b in
    let p : field 0 4 (a ++ b ++ c) ≡ a = field_left 0 4 (a ++ b) c (omega arith) ∙ field_left 0 4 a b (omega arith) ∙ ap (λ (n : ℕ). field 0 n a) (sym ha) ∙ field_all a in
    let q : field 4 4 (a ++ b ++ c) ≡ b = field_left 4 4 (a ++ b) c (omega arith) ∙ field_right 4 0 4 a b (omega arith) ∙ ap (λ (n : ℕ). field 0 n b) (sym hb) ∙ field_all b in
    let r : field 8 4 (a ++ b ++ c) ≡ c = field_right 8 0 4 (a ++ b) c (omega arith) ∙ ap (λ (n : ℕ). field 0 n c) (sym hc) ∙ field_all c in
    rw (p, q, r, little_bytes_lem 4 t.seen h.seen, little_bytes_lem 4 t.passed h.passed, little_bytes_lem 4 t.refused h.refused)

-- the 12 bytes say three counts of 32 bits, and a count that was not full is one after it was raised
counts_in : (b : List ℕ) → Bytes b → Counts (tally_in b)
unfolding tally_in
counts_in b h = record { seen = field_below 0 4 b h; passed = field_below 4 4 b h; refused = field_below 8 4 b h }

not_full : (n : ℕ) → is_full n ≡ false → n + 1 < 2 ^ 32
not_full n h = omega (arith, leb-false full n h)

neither : (a b : Bool) → (a || b) ≡ false → (a ≡ false) × (b ≡ false)
neither true b h = absurd (true≢false h)
neither false b h = (refl, h)

counts_raised : (t : Tally) (p : Bool) → Counts t → (is_full t.seen || is_full (count_of t p)) ≡ false → Counts (raised t p)
counts_raised t true c h =
    let n = neither (is_full t.seen) (is_full t.passed) h in
    record { seen = not_full t.seen n.0; passed = not_full t.passed n.1; refused = c.refused }
counts_raised t false c h =
    let n = neither (is_full t.seen) (is_full t.refused) h in
    record { seen = not_full t.seen n.0; passed = c.passed; refused = not_full t.refused n.1 }

-- the law
pub tally_back : (b : List ℕ) (a : ℕ) → Bytes b → is_long 12 b ≡ true → tally_in (tally_after b a) ≡ (counted_in b a).tally
unfolding tally_after tally_answer tally_of
tally_back b a h l =
    let t = tally_in b in
    by_test (is_full t.seen || is_full (count_of t (eqb a 0)))
    (λ e. rw (l, e))
    (λ e. rw (l, e) (tally_read (raised t (eqb a 0)) (counts_raised t (eqb a 0) (counts_in b h) e)))
