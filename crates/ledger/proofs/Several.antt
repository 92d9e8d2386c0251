-- Some put into a rising list, one after the other, over any comparison that is a strict total order: what is in it then, how long
-- it is, and that their order does not matter. Assumes nothing.
use Prim.Native.Nat.{◌+◌}
use mathlib.Core.Path.{◌≡◌, refl, sym, ap, ◌∙◌}
use mathlib.Core.Logic.{◌⊎◌, inl, inr, ⊎_elim}
use mathlib.Core.Bool.{true}
use mathlib.Core.List.Memᴰ
use mathlib.Core.List.{List, [], ◌∷◌, ◌++◌, Memᴰ}
use native.Mathlib.Omega.{arith}
use lib.ListN.{length}
use Rattle.ledger.specs.Sorted.{is_gap, Total, rising, find, insert, insert_all}
use Rattle.std.specs.declared.cmp.Ordering.{Ordering}
use Rattle.std.specs.declared.cmp.Ordering.TheVariants.{Equal}
use Rattle.ledger.proofs.Sorting.{insert_comm, rising_insert, length_insert, gap_same, gap_insert}
use Rattle.ledger.proofs.Members.{member_insert, insert_member, same_members}

-- so it is with each of a list
unfoldable pub Each : {A : Type 0} → (A → Type 0) → List A → Type 0
Each P [] = Unit {0}
Each P (x ∷ xs) = P x × Each P xs

module _ {A : Type 0} (compare : A → A → Ordering) where
  abbrev pub Differ : A → A → Type 0
  Differ x y = compare x y ≡ Equal → ⊥

  -- any two of them differ
  unfoldable pub Apart : List A → Type 0
  Apart [] = Unit {0}
  Apart (x ∷ xs) = Each (Differ x) xs × Apart xs

  -- each stands nowhere in the list when its turn comes
  unfoldable pub New : List A → List A → Type 0
  New [] l = Unit {0}
  New (x ∷ xs) l = (is_gap (find compare x l) ≡ true) × New xs (insert compare x l)

module _ {A : Type 0} (compare : A → A → Ordering) (total : Total compare) where
  -- those that differ and stand nowhere now stand nowhere when their turn comes
  gaps_insert : (x : A) (xs l : List A) → Each (Differ compare x) xs → Each (λ (y : A). is_gap (find compare y l) ≡ true) xs
      → Each (λ (y : A). is_gap (find compare y (insert compare x l)) ≡ true) xs
  unfolding Each
  gaps_insert x [] l d g = tt
  gaps_insert x (y ∷ xs) l d g = (gap_insert compare total x y l d.0 g.0, gaps_insert x xs l d.1 g.1)

  pub apart_new : (xs l : List A) → Apart compare xs → Each (λ (y : A). is_gap (find compare y l) ≡ true) xs → New compare xs l
  unfolding Each Apart New
  apart_new [] l d g = tt
  apart_new (x ∷ xs) l d g = (g.0, apart_new xs (insert compare x l) d.1 (gaps_insert x xs l d.0 g.1))

  -- the list still rises
  pub rising_all : (xs l : List A) → rising compare l ≡ true → rising compare (insert_all compare xs l) ≡ true
  unfolding insert_all
  rising_all [] l h = h
  rising_all (x ∷ xs) l h = rising_all xs (insert compare x l) (rising_insert compare total x l h)

  -- it has become longer by as many
  pub length_all : (xs l : List A) → New compare xs l → length (insert_all compare xs l) ≡ length l + length xs
  unfolding insert_all New
  length_all [] l n = omega arith
  length_all (x ∷ xs) l n = omega (arith, length_all xs (insert compare x l) n.1, length_insert compare total x l n.0)

  -- whether another stands in it has not changed
  pub gap_all : (y : A) (xs l : List A) → Each (λ (x : A). Differ compare x y) xs → is_gap (find compare y (insert_all compare xs l)) ≡ is_gap (find compare y l)
  unfolding insert_all Each
  gap_all y [] l d = refl
  gap_all y (x ∷ xs) l d = gap_all y xs (insert compare x l) d.1 ∙ gap_same compare total x y l d.0

  -- its members are theirs and those it had
  pub member_all : (xs : List A) (z : A) (l : List A) → Memᴰ z (insert_all compare xs l) → Memᴰ z xs ⊎ Memᴰ z l
  unfolding insert_all
  member_all [] z l m = inr m
  member_all (x ∷ xs) z l m = go (member_all xs z (insert compare x l) m)
    where
      go : Memᴰ z xs ⊎ Memᴰ z (insert compare x l) → Memᴰ z (x ∷ xs) ⊎ Memᴰ z l
      go (inl k) = inl (Memᴰ.tail k)
      go (inr k) = ⊎_elim (λ (e : z ≡ x). inl (Memᴰ.head e)) (λ (o : Memᴰ z l). inr o) (member_insert compare total x z l k)

  pub all_member : (xs : List A) (z : A) (l : List A) → Memᴰ z xs ⊎ Memᴰ z l → Memᴰ z (insert_all compare xs l)
  unfolding insert_all
  all_member [] z l (inl m) = absurd (Memᴰ.not-nil m)
  all_member [] z l (inr m) = m
  all_member (x ∷ xs) z l (inl m) = all_member xs z (insert compare x l) (go (Memᴰ.cases_cons m))
    where
      go : (z ≡ x) ⊎ Memᴰ z xs → Memᴰ z xs ⊎ Memᴰ z (insert compare x l)
      go (inl e) = inr (insert_member compare total x z l (inl e))
      go (inr k) = inl k
  all_member (x ∷ xs) z l (inr m) = all_member xs z (insert compare x l) (inr (insert_member compare total x z l (inr m)))

  -- some and then others
  pub append_all : (xs ys l : List A) → insert_all compare (xs ++ ys) l ≡ insert_all compare ys (insert_all compare xs l)
  unfolding insert_all
  append_all [] ys l = refl
  append_all (x ∷ xs) ys l = append_all xs ys (insert compare x l)

  -- or the others first
  one_past : (x : A) (ys l : List A) → insert_all compare ys (insert compare x l) ≡ insert compare x (insert_all compare ys l)
  unfolding insert_all
  one_past x [] l = refl
  one_past x (y ∷ ys) l = ap (insert_all compare ys) (insert_comm compare total y x l) ∙ one_past x ys (insert compare y l)

  pub all_comm : (xs ys l : List A) → insert_all compare xs (insert_all compare ys l) ≡ insert_all compare ys (insert_all compare xs l)
  unfolding insert_all
  all_comm [] ys l = refl
  all_comm (x ∷ xs) ys l = ap (insert_all compare xs) (sym (one_past x ys l)) ∙ all_comm xs ys (insert compare x l)

  -- into a rising list they may go in any order, and again: only which they are decides
  pub any_order : (xs ys l : List A) → rising compare l ≡ true → ((z : A) → Memᴰ z xs → Memᴰ z ys) → ((z : A) → Memᴰ z ys → Memᴰ z xs)
      → insert_all compare xs l ≡ insert_all compare ys l
  any_order xs ys l h to from =
      same_members compare total (insert_all compare xs l) (insert_all compare ys l) (rising_all xs l h) (rising_all ys l h) (moved xs ys to) (moved ys xs from)
    where
      moved : (us vs : List A) → ((z : A) → Memᴰ z us → Memᴰ z vs) → (z : A) → Memᴰ z (insert_all compare us l) → Memᴰ z (insert_all compare vs l)
      moved us vs f z m = all_member vs z l (⊎_elim (λ (k : Memᴰ z us). inl (f z k)) (λ (k : Memᴰ z l). inr k) (member_all us z l m))
