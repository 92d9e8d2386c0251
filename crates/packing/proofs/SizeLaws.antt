-- The lengths that words say, gone through one after the other, and the bytes cut by them.
-- Assumes nothing.
use Rattle.std.proofs.Common.{◌≡◌, ℕ, zero, suc, ◌+◌, ◌-◌, ◌*◌, ◌^◌, ◌<◌, ◌≤◌, true, false, List, [], ◌∷◌, ◌++◌, map, length, take, drop, sym, refl, ap, ◌∙◌, ap₂, append_assoc, append-nil, add-zero, arith, length-drop, take-append-drop, length-take-le, ne_eqb}
use Rattle.octets.specs.Rows.{flat}
use Rattle.bag.specs.Contents.{kind_at}
use Rattle.packing.specs.Words.{word}
use Rattle.packing.specs.Decimals.{length_of}
use Rattle.packing.specs.Bags.{row, rows_from, parts}
use Rattle.packing.proofs.WordLaws.{empty}
use Rattle.packing.proofs.DecimalLaws.{length_below}
use Rattle.packing.specs.Packing.{sizes_from, sum, is_fit, first_unfit}

-- ONE MORE: the loops go through the words from the front
pub sizes_more : (n k : ℕ) (line : List ℕ) → sizes_from (n + 1) k line ≡ sizes_from n k line ++ (length_of (word (k + n) line) ∷ [])
unfolding sizes_from
sizes_more zero k line = rw (add-zero k)
sizes_more (suc n) k line =
    let e : k + suc n ≡ k + 1 + n = omega arith in
    let f : suc n + 1 ≡ suc (n + 1) = omega arith in
    rw (e, f) (ap (λ (s : List ℕ). length_of (word k line) ∷ s) (sizes_more n (k + 1) line))

pub sizes_length : (n k : ℕ) (line : List ℕ) → length (sizes_from n k line) ≡ n
unfolding sizes_from
sizes_length zero k line = refl
sizes_length (suc n) k line = ap suc (sizes_length n (k + 1) line)

sum_more : (s : List ℕ) (x : ℕ) → sum (s ++ (x ∷ [])) ≡ sum s + x
unfolding sum
sum_more [] x = omega arith
sum_more (y ∷ s) x = omega (arith, sum_more s x)

pub total_more : (n k : ℕ) (line : List ℕ) → sum (sizes_from (n + 1) k line) ≡ sum (sizes_from n k line) + length_of (word (k + n) line)
total_more n k line = ap sum (sizes_more n k line) ∙ sum_more (sizes_from n k line) (length_of (word (k + n) line))

-- each length has at most 15 digits
pub total_below : (n k : ℕ) (line : List ℕ) → sum (sizes_from n k line) ≤ n * 10 ^ 15
unfolding sizes_from sum
total_below zero k line = omega arith
total_below (suc n) k line = omega (arith, total_below n (k + 1) line, length_below (word k line))

rows_more : (i at : ℕ) (s : List ℕ) (x : ℕ) → rows_from i at (s ++ (x ∷ [])) ≡ rows_from i at s ++ row (kind_at (i + length s)) (at + sum s) x
unfolding rows_from sum
rows_more i at [] x = rw (append-nil, add-zero i, add-zero at)
rows_more i at (y ∷ s) x =
    let e : i + suc (length s) ≡ i + 1 + length s = omega arith in
    let f : at + (y + sum s) ≡ at + y + sum s = omega arith in
    let r = row (kind_at i) at y in
    rw (e, f) (ap (λ (t : List ℕ). r ++ t) (rows_more (i + 1) (at + y) s x) ∙ sym (append_assoc r (rows_from (i + 1) (at + y) s) (row (kind_at (i + 1 + length s)) (at + y + sum s) x)))

-- the rows of cases, from row 1 on
pub case_rows_more : (n k : ℕ) (line : List ℕ) (first : ℕ)
    → rows_from 1 first (sizes_from (n + 1) k line) ≡ rows_from 1 first (sizes_from n k line) ++ row 2 (first + sum (sizes_from n k line)) (length_of (word (k + n) line))
case_rows_more n k line first =
    let e : kind_at (1 + length (sizes_from n k line)) ≡ 2 = rw (ne_eqb (1 + length (sizes_from n k line)) 0 (λ z. omega arith)) in
    ap (rows_from 1 first) (sizes_more n k line) ∙ rows_more 1 first (sizes_from n k line) (length_of (word (k + n) line)) ∙ rw e

-- THE CASES: bytes cut into parts that are as many bytes in all
pub parts_length : (sizes s : List ℕ) → length (parts sizes s) ≡ length sizes
unfolding parts
parts_length [] s = refl
parts_length (x ∷ sizes) s = ap suc (parts_length sizes (drop x s))

pub parts_sizes : (sizes s : List ℕ) → sum sizes ≡ length s → map length (parts sizes s) ≡ sizes
unfolding parts sum
parts_sizes [] s h = refl
parts_sizes (x ∷ sizes) s h =
    let l : sum sizes ≡ length (drop x s) = omega (arith, length-drop x s) in
    ap₂ (λ (n : ℕ) (t : List ℕ). n ∷ t) (length-take-le x s (omega arith)) (parts_sizes sizes (drop x s) l)

pub parts_flat : (sizes s : List ℕ) → sum sizes ≡ length s → flat (parts sizes s) ≡ s
unfolding parts sum flat
parts_flat [] s h = sym (empty s (sym h))
parts_flat (x ∷ sizes) s h =
    let l : sum sizes ≡ length (drop x s) = omega (arith, length-drop x s) in
    ap (λ (t : List ℕ). take x s ++ t) (parts_flat sizes (drop x s) l) ∙ take-append-drop x s

-- THE FIRST UNFIT WORD: n words behind the gate's name, of which i were fit
module _ (n i kind : ℕ) (line : List ℕ) where
  pub fit_next : i < n → is_fit kind (i + 1) (word (i + 1) line) ≡ true → first_unfit (n - i) kind (i + 1) line ≡ first_unfit (n - (i + 1)) kind (i + 1 + 1) line
  unfolding first_unfit
  fit_next h f = let e : n - i ≡ suc (n - (i + 1)) = omega arith in rw (e, f)

  pub unfit : i < n → is_fit kind (i + 1) (word (i + 1) line) ≡ false → first_unfit (n - i) kind (i + 1) line ≡ i + 1
  unfolding first_unfit
  unfit h f = let e : n - i ≡ suc (n - (i + 1)) = omega arith in rw (e, f)

  pub all_fit : n ≤ i → first_unfit (n - i) kind (i + 1) line ≡ i + 1
  unfolding first_unfit
  all_fit h = let e : n - i ≡ 0 = omega arith in rw e
