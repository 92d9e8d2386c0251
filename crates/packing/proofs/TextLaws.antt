-- The pieces that the calls write are the texts of the definitions.
-- Assumes nothing.
use Rattle.std.proofs.Common.{◌≡◌, ℕ, zero, suc, ◌+◌, ◌*◌, ◌%◌, ◌≤◌, List, [], ◌∷◌, ◌++◌, length, sym, ap, ◌∙◌, ap₂, append_assoc, append-nil, arith, length-append, eqb, eq-eqb, eqb-true}
use Rattle.std.specs.Prelude.{Some, None as no_kind, Ok, Err}
use borrow.Author.Tests.{eqb-false}
use Rattle.octets.specs.Numbers.{little_bytes}
use Rattle.octets.proofs.NumberLaws.{little_bytes_length, little_bytes_mod}
use Rattle.text.specs.Words.{ascii}
use Rattle.text.specs.Decimal.{decimal}
use Rattle.packing.specs.declared.PackingError.{PackingError}
use Rattle.packing.specs.declared.PackingError.TheVariants.{NoGate, OtherBytes}
use lib.Ieee.{Float, binary64, to_bits}
use Rattle.octets.specs.Parts.{zeros, same}
use Rattle.refusals.proofs.RuleLaws.{by_test}
use Rattle.packing.specs.Words.{word}
use Rattle.packing.specs.Decimals.{number_of}
use Rattle.packing.specs.Seals.{float_bytes, seal_bytes, limit_bytes, kind_named, gate_kind, gate_in, raw_in, seal_of}
use Rattle.octets.specs.Rows.{flat}
use Rattle.seal.specs.declared.Gate.{Gate}
use Rattle.seal.specs.declared.Gate.TheVariants.{None, AtLeast, Between}
use Rattle.packing.specs.Bags.{row, rows_from, bag_of, parts}
use Rattle.packing.specs.Packing.{case_count, first_length, sizes_in, sum, bag_in, bag_length, verdict_of, error_line, packed_from, text_by}
use Rattle.packing.proofs.BagLaws.{bag_length_lem}
use Rattle.packing.proofs.SizeLaws.{sizes_length, parts_length, parts_sizes, parts_flat}

joined : (a b c d e : List ℕ) → (a ++ b) ++ (c ++ d ++ e) ≡ a ++ b ++ c ++ d ++ e
joined a b c d e = simp append_assoc

pub other_as : (there named : ℕ)
    → (ascii "bag: the cases have " ++ decimal there) ++ (ascii " bytes, " ++ decimal named ++ ascii " were named\n") ≡ error_line (OtherBytes there named)
other_as there named = joined (ascii "bag: the cases have ") (decimal there) (ascii " bytes, ") (decimal named) (ascii " were named\n")

-- a row's numbers, of which four bytes hold what is left of 2^32
pub row_as : (kind start size : ℕ) {s t : List ℕ} → s ≡ little_bytes 4 (start % 4294967296) → t ≡ little_bytes 4 (size % 4294967296)
    → (kind ∷ []) ++ (s ++ t) ≡ row kind start size
unfolding row
row_as kind start size e f = ap₂ (λ (x y : List ℕ). kind ∷ (x ++ y)) (e ∙ little_bytes_mod 4 start) (f ∙ little_bytes_mod 4 size)

-- a number's bits as bytes
pub float_as : (x : Float) {bits : ℕ} {s : List ℕ} → bits ≡ to_bits binary64 x → s ≡ little_bytes 8 bits → s ≡ float_bytes x
unfolding float_bytes
float_as x e f = f ∙ ap (little_bytes 8) e

-- the seal's body, by its kind
pub seal_as : (kind : ℕ) (line w : List ℕ) → kind ≤ 2 → w ≡ word (kind + 1) line
    → (kind ∷ []) ++ (limit_bytes kind 1 line ++ (limit_bytes kind 2 line ++ float_bytes (number_of w))) ≡ seal_of kind line
unfolding limit_bytes seal_bytes gate_in raw_in
seal_as zero line w h e = ap (λ (x : List ℕ). 0 ∷ (zeros 8 ++ (zeros 8 ++ float_bytes (number_of x)))) e
seal_as (suc zero) line w h e = rw e (ap (λ (x : List ℕ). 1 ∷ x) (sym (append_assoc (float_bytes (number_of (word 1 line))) (zeros 8) (float_bytes (number_of (word 2 line))))))
seal_as (suc (suc zero)) line w h e =
    rw e (ap (λ (x : List ℕ). 2 ∷ x) (sym (append_assoc (float_bytes (number_of (word 1 line))) (float_bytes (number_of (word 2 line))) (float_bytes (number_of (word 3 line))))))
seal_as (suc (suc (suc k))) line w h e = absurd (omega arith)

-- the kind that a word names is one of three; where it names none, that is told
kind_known : (w : List ℕ) → kind_named w ≤ 3
unfolding kind_named
kind_known w =
    by_test (same w (ascii "none"))
    (λ h. rw h (omega arith))
    (λ h. by_test (same w (ascii "at-least"))
    (λ k. rw (h, k) (omega arith))
    (λ k. by_test (same w (ascii "between")) (λ l. rw (h, k, l) (omega arith)) (λ l. rw (h, k, l) (omega arith))))

pub kind_of : (w : List ℕ) (kind : ℕ) → gate_kind w ≡ Some kind → (kind ≡ kind_named w) × (kind ≤ 2)
unfolding gate_kind
kind_of w kind h =
    by_test (eqb (kind_named w) 3)
    (λ e. let z : no_kind ≡ Some kind = rw e at h in let y : ◌≡◌ {A = ℕ} 0 1 = cc in absurd (omega arith))
    (λ e. let z : Some (kind_named w) ≡ Some kind = rw e at h in let k : kind ≡ kind_named w = cc in (k, omega (arith, kind_known w, eqb-false (kind_named w) 3 e)))

pub none_of : (w : List ℕ) → gate_kind w ≡ no_kind → kind_named w ≡ 3
unfolding gate_kind
none_of w h =
    by_test (eqb (kind_named w) 3)
    (λ e. eqb-true (kind_named w) 3 e)
    (λ e. let z : Some (kind_named w) ≡ no_kind = rw e at h in let y : ◌≡◌ {A = ℕ} 0 1 = cc in absurd (omega arith))

-- THE BAG
pub float_bytes_length : (x : Float) → length (float_bytes x) ≡ 8
unfolding float_bytes
float_bytes_length x = little_bytes_length 8 (to_bits binary64 x)

pub seal_length : (g : Gate) (raw : Float) → length (seal_bytes g raw) ≡ 25
unfolding seal_bytes
seal_length None raw = omega (arith, float_bytes_length raw)
seal_length (AtLeast low) raw = omega (arith, length-append (float_bytes low ++ zeros 8) (float_bytes raw), length-append (float_bytes low) (zeros 8), float_bytes_length low, float_bytes_length raw)
seal_length (Between low high) raw = omega (arith, length-append (float_bytes low ++ float_bytes high) (float_bytes raw), length-append (float_bytes low) (float_bytes high), float_bytes_length low, float_bytes_length high, float_bytes_length raw)

regroup : (a b c d : List ℕ) → a ++ (b ++ (c ++ d)) ≡ (a ++ (b ++ c)) ++ d
regroup a b c d = simp append_assoc

module _ (kind cases : ℕ) (line bytes : List ℕ) where
  cut : List (List ℕ)
  cut = parts (sizes_in kind cases line) bytes

  rows : suc (length cut) ≡ cases + 1
  unfolding cut
  rows = omega (arith, parts_length (sizes_in kind cases line) bytes, sizes_length cases (first_length kind) line)

  pub bag_as : (s : List ℕ) → s ≡ little_bytes 2 (cases + 1) → sum (sizes_in kind cases line) ≡ length bytes
      → s ++ (row 1 (2 + 9 * (cases + 1)) 25 ++ (rows_from 1 (2 + 9 * (cases + 1) + 25) (sizes_in kind cases line) ++ (seal_of kind line ++ bytes))) ≡ bag_in kind cases line bytes
  unfolding bag_in bag_of rows_from flat cut
  bag_as s e h =
      let sizes = sizes_in kind cases line in
      let start = 2 + 9 * (cases + 1) in
      rw (rows, seal_length (gate_in kind line) (raw_in kind line), parts_sizes sizes bytes h, parts_flat sizes bytes h, e)
      (regroup (little_bytes 2 (cases + 1)) (row 1 start 25) (rows_from 1 (start + 25) sizes) (seal_of kind line ++ bytes))

  pub bag_short : sum (sizes_in kind cases line) ≡ length bytes → bag_length cases (length bytes) ≤ 65536 → length (bag_in kind cases line bytes) ≤ 65536
  unfolding bag_in flat cut
  bag_short h l =
      let seal = seal_of kind line in
      let bodies = ap length (parts_flat (sizes_in kind cases line) bytes h) in
      omega (arith, bag_length_lem (seal ∷ cut), length-append seal (flat cut), seal_length (gate_in kind line) (raw_in kind line), bodies, rows)

-- THE WHOLE TEXT, by the verdict
module _ (kind cases : ℕ) (line bytes : List ℕ) where
  pub text_packed : verdict_of kind cases line bytes ≡ Ok tt → ascii "bag 0 0\n" ++ bag_in kind cases line bytes ≡ packed_from kind cases line bytes
  unfolding packed_from
  text_packed h = rw h

  pub text_refused : (e : PackingError) → verdict_of kind cases line bytes ≡ Err e → error_line e ≡ packed_from kind cases line bytes
  unfolding packed_from
  text_refused e h = rw h (sym (append-nil (error_line e)))

-- and by the gate's name
module _ (line bytes w : List ℕ) (f : w ≡ word 0 line) where
  pub text_of_kind : (kind : ℕ) → gate_kind w ≡ Some kind → packed_from kind (case_count kind line) line bytes ≡ text_by line bytes
  unfolding text_by
  text_of_kind kind h = let k : kind ≡ kind_named (word 0 line) = (kind_of w kind h).0 ∙ ap kind_named f in rw k

  pub text_of_none : gate_kind w ≡ no_kind → error_line NoGate ≡ text_by line bytes
  unfolding text_by verdict_of
  text_of_none h =
      let k : kind_named (word 0 line) ≡ 3 = sym (ap kind_named f) ∙ none_of w h in
      text_refused (kind_named (word 0 line)) (case_count (kind_named (word 0 line)) line) line bytes NoGate (rw (eq-eqb _ 3 k))
