-- What the verdict is where, and what is known of an input that was packed.
-- Assumes nothing.
use Rattle.std.proofs.Common.{◌≡◌, ℕ, ◌+◌, ◌<◌, ◌≤◌, Bool, true, false, cond, eqb, ltb, List, length, sym, refl, ◌∙◌, arith, ltb-false, le-ltb, lt-ltb, eq-eqb, ne_eqb, eqb-true}
use Rattle.std.specs.Prelude.{Ok, Err}
use mathlib.Core.Bool.{false≢true}
use borrow.Author.Tests.{eqb-false}
use Rattle.refusals.proofs.RuleLaws.{by_test}
use Rattle.bag.specs.Contents.{most_bytes}
use Rattle.packing.specs.declared.PackingError.TheVariants.{NoGate, TooManyCases, NoNumber, OneTooMany, NoLength, TooLong}
use Rattle.octets.specs.Parts.{same}
use Rattle.text.specs.Words.{ascii}
use Rattle.packing.specs.Decimals.{is_number, is_length}
use Rattle.packing.specs.Packing.{first_length, sizes_in, sum, bag_length, is_fit, first_unfit, bytes_verdict, word_verdict, line_verdict, verdict_of, Verdict, is_packed}

-- a word, by its place
module _ (kind k : ℕ) (w : List ℕ) where
  pub fit_number : k < kind + 2 → is_number w ≡ is_fit kind k w
  unfolding is_fit
  fit_number h = rw (lt-ltb k (kind + 2) h)

  pub fit_word : k ≡ kind + 2 → same w (ascii "cases") ≡ is_fit kind k w
  unfolding is_fit
  fit_word h = rw (le-ltb k (kind + 2) (omega arith), eq-eqb k (kind + 2) h)

  pub fit_length : kind + 2 ≤ k → (k ≡ kind + 2 → ⊥) → is_length w ≡ is_fit kind k w
  unfolding is_fit
  fit_length h q = rw (le-ltb k (kind + 2) h, ne_eqb k (kind + 2) q)

-- by the line, in the code's order; k is the first unfit word
module _ (kind cases : ℕ) (line : List ℕ) (there k : ℕ) (e : k ≡ first_unfit (kind + 2 + cases) kind 1 line) where
  pub line_number : k < kind + 2 → Err (NoNumber (k + 1)) ≡ line_verdict kind cases line there
  unfolding line_verdict word_verdict
  line_number h = rw (sym e, lt-ltb k (kind + 2) h)

  module _ (h : kind + 2 ≤ k) where
    pub line_word : k ≡ kind + 2 → Err (OneTooMany (k + 1)) ≡ line_verdict kind cases line there
    unfolding line_verdict word_verdict
    line_word q = rw (sym e, le-ltb k (kind + 2) h, eq-eqb k (kind + 2) q)

    pub line_length : (k ≡ kind + 2 → ⊥) → k < kind + 3 + cases → Err (NoLength (k + 1)) ≡ line_verdict kind cases line there
    unfolding line_verdict word_verdict
    line_length q l = rw (sym e, le-ltb k (kind + 2) h, ne_eqb k (kind + 2) q, lt-ltb k (kind + 3 + cases) l)

    pub line_bytes : (k ≡ kind + 2 → ⊥) → kind + 3 + cases ≤ k → bytes_verdict cases (sum (sizes_in kind cases line)) there ≡ line_verdict kind cases line there
    unfolding line_verdict word_verdict
    line_bytes q l = rw (sym e, le-ltb k (kind + 2) h, ne_eqb k (kind + 2) q, le-ltb k (kind + 3 + cases) l)

-- and by all
module _ (kind cases : ℕ) (line bytes : List ℕ) where
  pub too_many : (kind ≡ 3 → ⊥) → 7 < cases → Err TooManyCases ≡ verdict_of kind cases line bytes
  unfolding verdict_of
  too_many h l = rw (ne_eqb kind 3 h, lt-ltb 7 cases l)

  pub by_line : (kind ≡ 3 → ⊥) → cases ≤ 7 → line_verdict kind cases line (length bytes) ≡ verdict_of kind cases line bytes
  unfolding verdict_of
  by_line h l = rw (ne_eqb kind 3 h, le-ltb 7 cases l)

-- PACKED: a known gate, at most seven cases, each word as it should be, and the bytes that were named, which fit a bag
pub is_packed_lem : (v : Verdict) → is_packed v ≡ true → v ≡ Ok tt
is_packed_lem (Ok u) h = refl
is_packed_lem (Err e) h = absurd (false≢true h)

pub record Ready (kind cases : ℕ) (line bytes : List ℕ) : Type 0 where
  pub gate : kind ≡ 3 → ⊥
  pub few : cases ≤ 7
  pub words : kind + 3 + cases ≤ first_unfit (kind + 2 + cases) kind 1 line
  pub named : sum (sizes_in kind cases line) ≡ length bytes
  pub short : bag_length cases (length bytes) ≤ 65536

-- a test that failed gives what follows it
passed : (b : Bool) (v r : Verdict) → is_packed v ≡ false → is_packed (cond b v r) ≡ true → (b ≡ false) × (is_packed r ≡ true)
passed true v r f h = absurd (false≢true (sym f ∙ h))
passed false v r f h = (refl, h)

bytes_ready : (cases named there : ℕ) → is_packed (bytes_verdict cases named there) ≡ true → (bag_length cases named ≤ 65536) × (named ≡ there)
unfolding bytes_verdict
bytes_ready cases named there h =
    let p = passed (ltb most_bytes (bag_length cases named)) (Err TooLong) _ refl h in
    (ltb-false most_bytes (bag_length cases named) p.0, by_test (eqb named there) (λ e. eqb-true named there e) (λ e. absurd (false≢true (rw e at p.1))))

pub ready : (kind cases : ℕ) (line bytes : List ℕ) → is_packed (verdict_of kind cases line bytes) ≡ true → Ready kind cases line bytes
unfolding verdict_of line_verdict word_verdict
ready kind cases line bytes h =
    let p = passed (eqb kind 3) (Err NoGate) _ refl h in
    let q = passed (ltb 7 cases) (Err TooManyCases) _ refl p.1 in
    let k = first_unfit (kind + 2 + cases) kind 1 line in
    let r = passed (ltb k (kind + 2)) (Err (NoNumber (k + 1))) _ refl q.1 in
    let o = passed (eqb k (kind + 2)) (Err (OneTooMany (k + 1))) _ refl r.1 in
    let s = passed (ltb k (first_length kind + cases)) (Err (NoLength (k + 1))) _ refl o.1 in
    let b = bytes_ready cases (sum (sizes_in kind cases line)) (length bytes) s.1 in
    record {
      gate = eqb-false kind 3 p.0;
      few = ltb-false 7 cases q.0;
      words = ltb-false k (first_length kind + cases) s.0;
      named = b.1;
      short = rw (sym b.1) b.0;
    }
