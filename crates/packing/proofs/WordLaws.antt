-- Text cut at a byte, by a loop that goes through it.
-- Assumes nothing.
use Rattle.std.proofs.Common.{add_comm, ◌≡◌, ℕ, zero, suc, ◌+◌, ◌-◌, ◌<◌, ◌≤◌, Bool, true, false, cond, eqb, List, [], ◌∷◌, length, get_or, take, drop, sym, refl, ap, ◌∙◌, add-one, arith, length-drop, drop_of_length-le, length-take, take_all, drop-cons, eq-eqb, ne_eqb}
use Rattle.std.specs.List.{count_by}
use Rattle.std.proofs.lemmas.List.Recursion.{is_count_by}
use Rattle.packing.specs.Words.{place_of, up_to, behind, counted}

pub empty : (s : List ℕ) → length s ≡ 0 → s ≡ []
empty [] h = refl
empty (x ∷ s) h = absurd (omega arith)

-- what is left from i on, by its first byte
pub next_byte : (s : List ℕ) (i : ℕ) → i < length s → drop i s ≡ get_or s i 0 ∷ drop (i + 1) s
next_byte s i h = rw (add-one, drop-cons s i 0)

pub none_left : (s : List ℕ) (i : ℕ) → length s ≤ i → drop i s ≡ []
none_left s i h = drop_of_length-le s h

-- a part up to the end, as the code takes it
pub rest_of : (s : List ℕ) (i : ℕ) → take (length s - i) (drop i s) ≡ drop i s
rest_of s i = take_all (length s - i) (drop i s) (omega (arith, length-drop i s))

-- the place is the first index at which x stands, or the end
pub place_is : (x : ℕ) (s : List ℕ) (n : ℕ) → n ≤ length s → ((k : ℕ) → k < n → get_or s k 0 ≡ x → ⊥) → (n < length s → get_or s n 0 ≡ x) → n ≡ place_of x s
unfolding place_of
place_is x [] n h b f = omega arith
place_is x (y ∷ s) zero h b f = rw (eq-eqb y x (f (omega arith)))
place_is x (y ∷ s) (suc n) h b f = rw (ne_eqb y x (b 0 (omega arith))) (ap suc (place_is x s n (omega arith) (λ k l. b (suc k) (omega arith)) (λ l. f (omega arith))))

-- the library counts the same
pub count_as : (x : ℕ) (s : List ℕ) → count_by (λ (y : ℕ). eqb y x) s ≡ counted x s
unfolding counted
count_as x s = sym (is_count_by (counted x) (λ (y : ℕ). eqb y x) refl (λ y r. rw (add_comm 1 (counted x r), add-one) refl) s)

-- the place lies within the text
pub place_within : (x : ℕ) (s : List ℕ) → place_of x s ≤ length s
unfolding place_of
place_within x [] = omega arith
place_within x (y ∷ s) = go (eqb y x) (place_within x s)
  where
    go : (b : Bool) → place_of x s ≤ length s → cond b 0 (suc (place_of x s)) ≤ suc (length s)
    go true h = omega arith
    go false h = omega arith

-- so do the two sides of it
pub up_to_length : (x : ℕ) (s : List ℕ) → length (up_to x s) ≡ place_of x s
unfolding up_to
up_to_length x s = rw length-take (omega (arith, place_within x s))

pub behind_length : (x : ℕ) (s : List ℕ) → length (behind x s) ≡ length s - (place_of x s + 1)
unfolding behind
behind_length x s = length-drop (place_of x s + 1) s

-- what stands behind the place, where there is one and where there is none
module _ (x : ℕ) (s : List ℕ) (i : ℕ) (e : i ≡ place_of x s) where
  pub behind_found : drop (i + 1) s ≡ behind x s
  unfolding behind
  behind_found = rw e

  pub behind_none : length s ≤ i → drop i s ≡ behind x s
  behind_none h = none_left s i h ∙ sym (none_left s (i + 1) (omega arith)) ∙ behind_found
