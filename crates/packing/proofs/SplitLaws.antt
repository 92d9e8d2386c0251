-- The words of a line are the parts that the library cuts it into at its spaces.
-- Assumes nothing.
use Rattle.std.proofs.Common.{◌≡◌, ℕ, zero, suc, true, false, eqb, List, [], ◌∷◌, Some, None, Option, refl, sym, ap, ◌∙◌, add-one}
use Rattle.std.specs.List.{slice_split, slice_get, onto_first}
use Rattle.std.specs.Option.{option_map, unwrap_or}
use Rattle.refusals.proofs.RuleLaws.{by_test}
use Rattle.packing.specs.Words.{place_of, up_to, behind, from_word, word, space}

pub or_none : {X : Type 0} (f : X → List ℕ) (o : Option X) {d : X} (n : List ℕ) (p : Option (List ℕ)) → f d ≡ n → option_map f o ≡ p → f (unwrap_or o d) ≡ unwrap_or p n
or_none f None n p z e = rw (sym e) z
or_none f (Some x) n p z e = rw (sym e) refl

shift : (k : ℕ) (s : List ℕ) → from_word (suc k) s ≡ from_word k (behind space s)
unfolding from_word
shift zero s = refl
shift (suc k) s = ap (behind space) (shift k s)

next_word : (k : ℕ) (s : List ℕ) → word (suc k) s ≡ word k (behind space s)
unfolding word
next_word k s = ap (up_to space) (shift k s)

first_word : (s : List ℕ) → word 0 s ≡ up_to space s
unfolding word from_word
first_word s = refl

behind_none : behind space [] ≡ []
unfolding behind place_of
behind_none = refl

behind_here : (y : ℕ) (s : List ℕ) → eqb y 32 ≡ true → behind space (y ∷ s) ≡ s
unfolding behind place_of
behind_here y s h = rw h refl

place_next : (y : ℕ) (s : List ℕ) → eqb y 32 ≡ false → place_of space (y ∷ s) ≡ suc (place_of space s)
unfolding place_of
place_next y s h = rw h refl

behind_next : (y : ℕ) (s : List ℕ) → eqb y 32 ≡ false → behind space (y ∷ s) ≡ behind space s
unfolding behind
behind_next y s h = rw (place_next y s h, add-one (suc (place_of space s)), add-one (place_of space s)) refl

up_to_here : (y : ℕ) (s : List ℕ) → eqb y 32 ≡ true → up_to space (y ∷ s) ≡ []
unfolding up_to place_of
up_to_here y s h = rw h refl

up_to_next : (y : ℕ) (s : List ℕ) → eqb y 32 ≡ false → up_to space (y ∷ s) ≡ y ∷ up_to space s
unfolding up_to place_of
up_to_next y s h = rw h refl

up_to_none : up_to space [] ≡ []
unfolding up_to place_of
up_to_none = refl

no_word : (k : ℕ) → word k [] ≡ []
no_word zero = first_word [] ∙ up_to_none
no_word (suc k) = next_word k [] ∙ ap (word k) behind_none ∙ no_word k

onto_head : (y : ℕ) (p : List (List ℕ)) → unwrap_or (slice_get (onto_first y p) 0) [] ≡ y ∷ unwrap_or (slice_get p 0) []
onto_head y [] = refl
onto_head y (x ∷ p) = refl

onto_tail : (y : ℕ) (p : List (List ℕ)) (k : ℕ) → slice_get (onto_first y p) (suc k) ≡ slice_get p (suc k)
onto_tail y [] k = refl
onto_tail y (x ∷ p) k = refl

pub split_word : (k : ℕ) (s : List ℕ) → unwrap_or (slice_get (slice_split (λ (y : ℕ). eqb y 32) s) k) [] ≡ word k s
split_word zero [] = sym (no_word 0)
split_word (suc k) [] = sym (no_word (suc k))
split_word zero (y ∷ s) =
    by_test (eqb y 32)
    (λ h. rw (h, first_word (y ∷ s), up_to_here y s h) refl)
    (λ h. rw (h, first_word (y ∷ s), up_to_next y s h) (onto_head y _ ∙ ap (λ (t : List ℕ). y ∷ t) (split_word zero s ∙ first_word s)))
split_word (suc k) (y ∷ s) =
    by_test (eqb y 32)
    (λ h. rw (h, next_word k (y ∷ s), behind_here y s h) (split_word k s))
    (λ h. rw (h, next_word k (y ∷ s), behind_next y s h, onto_tail y (slice_split (λ (y : ℕ). eqb y 32) s) k) (split_word (suc k) s ∙ next_word k s))
