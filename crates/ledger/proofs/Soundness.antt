-- What a ledger that is not damaged gives: every clause of the list of damage, turned round; and what its rows then say of a search.
-- Assumes nothing.
use Prim.Native.Nat.{ℕ, zero, suc, ◌*◌, ◌%◌, ◌≤◌}
use mathlib.Core.Path.{◌≡◌, refl, sym, ap, ◌∙◌}
use mathlib.Core.Bool.{Bool, true, false, not, ◌||◌, or-true, false≢true, true≢false}
use mathlib.Core.Logic.{◌⊎◌, inl, inr}
use mathlib.Core.List.Memᴰ
use mathlib.Core.List.{List, [], ◌∷◌, Memᴰ}
use native.Mathlib.Omega.{arith}
use borrow.Author.Tests.{eqb-true, eqb-false, eq-eqb, ne_eqb, ltb-false, le-ltb, not-false}
use lib.Dec.{eqb}
use lib.ListN.{length, get_or}
use Rattle.octets.specs.Parts.{same}
use Rattle.octets.proofs.PartLaws.{same_eq, same_refl}
use Rattle.refusals.proofs.RuleLaws.{by_test}
use Rattle.units.specs.Limits.{max_money}
use Rattle.ledger.specs.declared.Ledger.{Ledger}
use Rattle.ledger.specs.Sorted.{rising, find, is_gap}
use Rattle.ledger.specs.Rows.{byte_order, among}
use Rattle.ledger.specs.Ledgers.{most_nullifiers, most_anchors, room_in, spent_rows, some, damage, damaged}
use Rattle.ledger.proofs.ByteOrder.{byte_total}
use Rattle.ledger.proofs.Members.{at_member, member_at}

-- some test of a list holds
pub some_at : (bs : List Bool) (k : ℕ) → get_or bs k false ≡ true → true ≡ some bs
unfolding some
some_at [] k h = absurd (false≢true h)
some_at (b ∷ bs) zero h = rw h
some_at (b ∷ bs) (suc k) h = by_test b (λ e. rw e) (λ e. rw e (some_at bs k h))

-- none does
none_at : (bs : List Bool) → some bs ≡ false → (k : ℕ) → get_or bs k false ≡ false
unfolding some
none_at [] h k = refl
none_at (b ∷ bs) h zero = by_test b (λ e. absurd (true≢false (sym (ap (λ (x : Bool). x || some bs) e) ∙ h))) (λ e. e)
none_at (b ∷ bs) h (suc k) = none_at bs (by_test b (λ e. absurd (true≢false (sym (ap (λ (x : Bool). x || some bs) e) ∙ h))) (λ e. sym (ap (λ (x : Bool). x || some bs) e) ∙ h)) k

-- the clauses of damage, turned round
pub record Sound (t r : List ℕ) (l : Ledger) : Type 0 where
  pub even : l.nullifiers % 2 ≡ 0
  pub fits : l.nullifiers ≤ room_in most_nullifiers (length t)
  pub rises : rising byte_order (spent_rows t l) ≡ true
  pub leaves : l.tree.leaves ≡ l.nullifiers
  pub anchored : l.anchors ≡ 0 → ⊥
  pub roll : l.anchors ≤ room_in most_anchors (length r)
  pub pool : l.pool.0 ≤ max_money

pub undamaged : (t r : List ℕ) (l : Ledger) → damaged t r l ≡ false → Sound t r l
unfolding damaged damage
undamaged t r l h =
    let n = none_at (damage t r l) h in
    record {
      even = eqb-true (l.nullifiers % 2) 0 (not-false (eqb (l.nullifiers % 2) 0) (n 0));
      fits = ltb-false (room_in most_nullifiers (length t)) l.nullifiers (n 1);
      rises = not-false (rising byte_order (spent_rows t l)) (n 2);
      leaves = eqb-true l.tree.leaves l.nullifiers (not-false (eqb l.tree.leaves l.nullifiers) (n 3));
      anchored = eqb-false l.anchors 0 (n 4);
      roll = ltb-false (room_in most_anchors (length r)) l.anchors (n 5);
      pool = ltb-false max_money l.pool.0 (n 6);
    }

pub sound_undamaged : (t r : List ℕ) (l : Ledger) → Sound t r l → damaged t r l ≡ false
unfolding damaged damage some
sound_undamaged t r l s =
    rw (eq-eqb (l.nullifiers % 2) 0 s.even, le-ltb (room_in most_nullifiers (length t)) l.nullifiers s.fits, s.rises, eq-eqb l.tree.leaves l.nullifiers s.leaves, ne_eqb l.anchors 0 s.anchored, le-ltb (room_in most_anchors (length r)) l.anchors s.roll, le-ltb max_money l.pool.0 s.pool)

-- rows that there is room for lie within the lent bytes
pub within : (n most len : ℕ) → n ≤ room_in most len → n * 32 ≤ len
unfolding room_in
within n most len h = omega arith

pub at_most : (n most len : ℕ) → n ≤ room_in most len → n ≤ most
unfolding room_in
at_most n most len h = omega arith

-- to be among some rows is to be one of them
pub among_member : (x : List ℕ) (l : List (List ℕ)) → among x l ≡ true → Memᴰ x l
unfolding among
among_member x [] h = absurd (false≢true h)
among_member x (y ∷ l) h =
    by_test (same x y)
    (λ e. Memᴰ.head (same_eq x y e))
    (λ e. Memᴰ.tail (among_member x l (sym (ap (λ (b : Bool). b || among x l) e) ∙ h)))

pub member_among : (x : List ℕ) (l : List (List ℕ)) → Memᴰ x l → among x l ≡ true
unfolding among
member_among x [] m = absurd (Memᴰ.not-nil m)
member_among x (y ∷ l) m = go (member_among x l) (Memᴰ.cases_cons m)
  where
    go : (Memᴰ x l → among x l ≡ true) → (x ≡ y) ⊎ Memᴰ x l → among x (y ∷ l) ≡ true
    go r (inl e) = rw e (ap (λ (b : Bool). b || among x l) (same_refl y))
    go r (inr n) = rw (r n) (or-true (same x y))

-- among rows that rise a search finds what is there, and nothing else
pub among_found : (x : List ℕ) (l : List (List ℕ)) → rising byte_order l ≡ true → among x l ≡ not (is_gap (find byte_order x l))
among_found x l h =
    by_test (is_gap (find byte_order x l))
    (λ e. rw e (by_test (among x l) (λ a. absurd (true≢false (sym e ∙ member_at byte_order byte_total x l h (among_member x l a)))) (λ a. a)))
    (λ e. rw e (member_among x l (at_member byte_order byte_total x l e)))
