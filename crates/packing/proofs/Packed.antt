-- WHAT A CUSTODIAN MAY COUNT ON: an input that is packed gives a bag that keeps to the layout, from which `bag` reads the gate, the raw reading and the
-- cases that were put in; and no input that is refused has the line of one that is packed.
-- Assumes nothing.
use Rattle.std.proofs.Common.{◌≡◌, ℕ, zero, suc, ◌+◌, ◌<◌, ◌≤◌, true, false, List, ◌∷◌, ◌++◌, length, get_or, drop, sym, refl, ap, ◌∙◌, ⊎_elim, eq-or-lt_of_le, arith}
use Rattle.std.specs.Prelude.{Ok, Err}
use mathlib.Core.Bool.{false≢true}
use borrow.Author.Tests.{eqb-false}
use Rattle.octets.specs.Rows.{flat}
use Rattle.refusals.proofs.RuleLaws.{by_test}
use Rattle.text.specs.Words.{ascii}
use Rattle.std.specs.Prelude.{Ok}
use Rattle.bag.specs.Contents.{laid_out, cases_of}
use Rattle.bag.specs.SealAndCases.{seal_in}
use Rattle.packing.specs.declared.PackingError.TheVariants.{NoGate, TooManyCases, NoNumber, OneTooMany, NoLength, TooLong, OtherBytes}
use Rattle.packing.specs.Words.{word}
use Rattle.packing.specs.Seals.{gate_in, raw_in, seal_of}
use Rattle.packing.specs.Bags.{bag_of, parts}
use Rattle.packing.specs.Packing.{line_in, bytes_in, kind_in, case_count, first_length, sizes_in, bag_in, is_fit, first_unfit, verdict_of, Verdict, head_for, is_packed, packed_from, text_by, text_of}
use Rattle.packing.proofs.BagLaws.{laid_out_lem, seal_back, cases_back}
use Rattle.packing.proofs.SealLaws.{line_read_back}
use Rattle.packing.proofs.SizeLaws.{sizes_length, parts_length, parts_flat}
use Rattle.packing.proofs.TextLaws.{bag_short}
use Rattle.packing.proofs.VerdictLaws.{is_packed_lem, ready}

module _ (kind cases : ℕ) (line bytes : List ℕ) (h : is_packed (verdict_of kind cases line bytes) ≡ true) where
  cut : List (List ℕ)
  cut = parts (sizes_in kind cases line) bytes

  few : length cut ≤ 7
  unfolding cut
  few = omega (arith, parts_length (sizes_in kind cases line) bytes, sizes_length cases (first_length kind) line, (ready kind cases line bytes h).few)

  short : length (bag_of (seal_of kind line ∷ cut)) ≤ 65536
  unfolding cut bag_in
  short = let s = ready kind cases line bytes h in bag_short kind cases line bytes s.named s.short

  -- the text is the line of a bag, and the bag
  pub text : packed_from kind cases line bytes ≡ ascii "bag 0 0\n" ++ bag_in kind cases line bytes
  unfolding packed_from
  text = rw (is_packed_lem (verdict_of kind cases line bytes) h)

  -- which keeps to the layout
  pub layout : laid_out (bag_in kind cases line bytes) ≡ true
  unfolding bag_in cut
  layout = laid_out_lem (seal_of kind line) cut few short

  -- says the gate and the raw reading that the line says
  pub seal : seal_in (bag_in kind cases line bytes) ≡ Ok (record { gate = gate_in kind line; raw = raw_in kind line })
  unfolding seal_in bag_in cut
  seal = rw (laid_out_lem (seal_of kind line) cut few short, seal_back (seal_of kind line) cut few short) (line_read_back kind line)

  -- has the cases, cut by the lengths that the line says
  pub the_cases : cases_of (bag_in kind cases line bytes) ≡ parts (sizes_in kind cases line) bytes
  unfolding bag_in cut
  the_cases = cases_back (seal_of kind line) cut few short

  -- and no byte is lost, or stands elsewhere
  pub all_bytes : flat (cases_of (bag_in kind cases line bytes)) ≡ bytes
  all_bytes = ap flat the_cases ∙ parts_flat (sizes_in kind cases line) bytes (ready kind cases line bytes h).named

-- each word of the line is what it should be: no number is taken from a word that is none
all_fit : (n kind k : ℕ) (line : List ℕ) → k + n ≤ first_unfit n kind k line → (j : ℕ) → k ≤ j → j < k + n → is_fit kind j (word j line) ≡ true
unfolding first_unfit
all_fit zero kind k line h j l m = absurd (omega arith)
all_fit (suc n) kind k line h j l m = go (λ a b c. all_fit n kind (k + 1) line a j b c)
  where
    go : (k + 1 + n ≤ first_unfit n kind (k + 1) line → k + 1 ≤ j → j < k + 1 + n → is_fit kind j (word j line) ≡ true) → is_fit kind j (word j line) ≡ true
    go r =
        by_test (is_fit kind k (word k line))
        (λ f. ⊎_elim (λ e. ap (λ (i : ℕ). is_fit kind i (word i line)) (sym e) ∙ f) (λ e. r (omega (arith, rw f at h)) (omega (arith, e)) (omega arith)) (eq-or-lt_of_le l))
        (λ f. absurd (omega (arith, rw f at h)))

words_fit : (kind cases : ℕ) (line bytes : List ℕ) → is_packed (verdict_of kind cases line bytes) ≡ true → (j : ℕ) → 1 ≤ j → j < first_length kind + cases
    → is_fit kind j (word j line) ≡ true
words_fit kind cases line bytes h j l m = all_fit (kind + 2 + cases) kind 1 line (omega (arith, (ready kind cases line bytes h).words)) j l (omega arith)

-- A REFUSAL IS NO BAG: of the text of a bag the fourth byte is a space, and of no other
pub refused_apart : (v : Verdict) (t : List ℕ) → is_packed v ≡ false → get_or (head_for v ++ t) 3 0 ≡ 32 → ⊥
refused_apart (Ok u) t h e = false≢true (sym h)
refused_apart (Err NoGate) t h e = eqb-false 108 32 refl e
refused_apart (Err TooManyCases) t h e = eqb-false 58 32 refl e
refused_apart (Err (NoNumber k)) t h e = eqb-false 108 32 refl e
refused_apart (Err (OneTooMany k)) t h e = eqb-false 108 32 refl e
refused_apart (Err (NoLength k)) t h e = eqb-false 58 32 refl e
refused_apart (Err TooLong) t h e = eqb-false 58 32 refl e
refused_apart (Err (OtherBytes there named)) t h e = eqb-false 58 32 refl e

-- THE WHOLE: whatever bytes follow the line of a bag, they are a bag of what the input says
pub record Packs (kind cases : ℕ) (line bytes b : List ℕ) : Type 0 where
  pub of_layout : laid_out b ≡ true
  pub of_seal : seal_in b ≡ Ok (record { gate = gate_in kind line; raw = raw_in kind line })
  pub of_cases : cases_of b ≡ parts (sizes_in kind cases line) bytes
  pub of_bytes : flat (cases_of b) ≡ bytes
  pub of_words : (j : ℕ) → 1 ≤ j → j < first_length kind + cases → is_fit kind j (word j line) ≡ true

packs : (kind cases : ℕ) (line bytes b : List ℕ) → packed_from kind cases line bytes ≡ ascii "bag 0 0\n" ++ b → Packs kind cases line bytes b
unfolding packed_from
packs kind cases line bytes b e =
    by_test (is_packed (verdict_of kind cases line bytes)) packed
    (λ h. absurd (refused_apart (verdict_of kind cases line bytes) _ h (ap (λ (t : List ℕ). get_or t 3 0) e)))
  where
    packed : is_packed (verdict_of kind cases line bytes) ≡ true → Packs kind cases line bytes b
    packed h =
        let q : bag_in kind cases line bytes ≡ b = ap (drop 8) (sym (text kind cases line bytes h) ∙ e) in
        rw (sym q)
        (record {
          of_layout = layout kind cases line bytes h;
          of_seal = seal kind cases line bytes h;
          of_cases = the_cases kind cases line bytes h;
          of_bytes = all_bytes kind cases line bytes h;
          of_words = words_fit kind cases line bytes h;
        })

pub input_packs : (input b : List ℕ) → text_of input ≡ ascii "bag 0 0\n" ++ b
    → Packs (kind_in (line_in input)) (case_count (kind_in (line_in input)) (line_in input)) (line_in input) (bytes_in input) b
unfolding text_of text_by
input_packs input b e = packs _ _ _ _ b e
