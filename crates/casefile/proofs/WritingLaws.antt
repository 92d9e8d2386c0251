-- A field after a field was written: the new bytes there, and every other field as it was.
-- Assumes nothing.
use Prim.Native.Nat.{ℕ, ◌+◌, ◌≤◌, ◌<◌}
use mathlib.Core.Path.{◌≡◌, ap, ◌∙◌}
use mathlib.Core.Logic.{◌⊎◌, inl, inr}
use mathlib.Core.Bool.{true, cond}
use mathlib.Core.List.{List}
use native.Mathlib.Decide.{dec_le}
use native.Mathlib.Nat.{eq-or-lt_of_le, lt_of_not-le}
use native.Mathlib.Omega.{arith}
use borrow.Author.Tests.{eq-eqb, ne_eqb}
use lib.Dec.{eqb}
use lib.ListN.{length, get_or, take}
use Rattle.octets.specs.Parts.{field, pasted}
use Rattle.octets.proofs.PartLaws.{pasted_length, pasted_field, pasted_before, pasted_behind}
use Rattle.casefile.specs.Layout.{lengths, total, offset, case_length, proof_length, part_of}
use Rattle.casefile.specs.Fields.{has_length}
use Rattle.casefile.specs.Writing.{put_part}
use Rattle.casefile.proofs.Editions.{proof_by_length, whole_long}
use Rattle.casefile.proofs.LayoutLaws.{ends_before, ends_within}

pub put_length : (k : ℕ) (b c : List ℕ) → length (put_part k b c) ≡ length c
unfolding put_part
put_length k b c = pasted_length (offset (proof_length c) k) b c

-- THE LAW: field j after bytes of its length were written as field k
pub put_part_lem : (k j : ℕ) (b c : List ℕ) → has_length c ≡ true → length b ≡ get_or (lengths (proof_length c)) k 0 → part_of j (put_part k b c) ≡ cond (eqb j k) b (part_of j c)
unfolding case_length part_of put_part offset
put_part_lem k j b c whole long =
    ap (λ (p : ℕ). field (total (take j (lengths p))) (get_or (lengths p) j 0) (pasted at b c)) (proof_by_length (put_part k b c) c (put_length k b c)) ∙ go (dec_le j k)
  where
    ns : List ℕ
    ns = lengths (proof_length c)

    at : ℕ
    at = total (take k ns)

    fits : at + length b ≤ length c
    fits = omega (arith, ends_within ns k, whole_long c whole, long)

    equal : (j ≡ k) ⊎ (j < k) → field (total (take j ns)) (get_or ns j 0) (pasted at b c) ≡ cond (eqb j k) b (field (total (take j ns)) (get_or ns j 0) c)
    equal (inl e) = rw (eq-eqb j k e, e, ← long) (pasted_field at b c fits)
    equal (inr l) = rw (ne_eqb j k (λ e. omega arith)) (pasted_before at b c (total (take j ns)) (get_or ns j 0) fits (ends_before ns j k l))

    go : Dec (j ≤ k) → field (total (take j ns)) (get_or ns j 0) (pasted at b c) ≡ cond (eqb j k) b (field (total (take j ns)) (get_or ns j 0) c)
    go (yes l) = equal (eq-or-lt_of_le l)
    go (no l) =
        rw (ne_eqb j k (λ e. l (omega arith)))
        (pasted_behind at b c (total (take j ns)) (get_or ns j 0) fits (omega (arith, ends_before ns k j (lt_of_not-le l), long)))
