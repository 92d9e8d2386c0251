-- The tally after any history: its counts grow by those of the entries that were taken, and from an empty tally each count is the history's own.
-- Assumes nothing.
use Prim.Native.Nat.{ℕ, zero, suc, ◌+◌, ◌≤◌, ◌<◌, min}
use mathlib.Core.Path.{◌≡◌, refl, sym, ap, ◌∙◌}
use mathlib.Core.Logic.{inl, inr}
use mathlib.Core.Bool.{Bool, true, false}
use mathlib.Core.List.{List, [], ◌∷◌}
use native.Mathlib.Omega.{arith}
use borrow.Author.Tests.{ltb-true, ltb-false}
use lib.Dec.{ltb}
use lib.ListN.{length, take, length-take}
use lib.Seq.{take_all}
use Rattle.books.specs.declared.Tally.{Tally}
use Rattle.books.specs.Tally.{full, Tallied, count_of, raised, tally_of}
use Rattle.books.specs.History.{many, shift_counts, added, empty, tally_after_shift, taken}
use Rattle.books.proofs.TallyLaws.{Decided, decided, seen_full, has_room}

tally_of_lem : (a b c d e f : ℕ) → a ≡ d → b ≡ e → c ≡ f → ◌≡◌ {A = Tally} (record { seen = a; passed = b; refused = c }) (record { seen = d; passed = e; refused = f })
tally_of_lem a b c d e f p q r = cc

added_next : (t : Tally) (p : Bool) (h : List Bool) → added (raised t p) h ≡ added t (p ∷ h)
unfolding many
added_next t true h = tally_of_lem _ _ _ _ _ _ (omega arith) (omega arith) (omega arith)
added_next t false h = tally_of_lem _ _ _ _ _ _ (omega arith) (omega arith) (omega arith)

-- from any tally: the counts grow by those of the entries that were taken
pub after_added : (t : Tally) (h : List Bool) → tally_after_shift t h ≡ added t (taken t h)
unfolding tally_after_shift taken many
after_added t [] = tally_of_lem _ _ _ _ _ _ (omega arith) (omega arith) (omega arith)
after_added t (p ∷ h) = go (after_added t h) (after_added (raised t p) h) (decided t p)
  where
    go : tally_after_shift t h ≡ added t (taken t h) → tally_after_shift (raised t p) h ≡ added (raised t p) (taken (raised t p) h)
        → Decided t p → tally_after_shift t (p ∷ h) ≡ added t (taken t (p ∷ h))
    go stayed grown (inl e) = rw e stayed
    go stayed grown (inr e) = rw e (grown ∙ added_next t p (taken (raised t p) h))

-- each count equals the history's own count
pub own_counts : (h : List Bool) → tally_after_shift empty h ≡ shift_counts (taken empty h)
own_counts h = after_added empty h ∙ tally_of_lem _ _ _ _ _ _ (omega arith) (omega arith) (omega arith)

many_sum : (h : List Bool) → length h ≡ many true h + many false h
unfolding many
many_sum [] = refl
many_sum (true ∷ h) = omega (arith, many_sum h)
many_sum (false ∷ h) = omega (arith, many_sum h)

pub seen_sum : (h : List Bool) → (tally_after_shift empty h).seen ≡ (tally_after_shift empty h).passed + (tally_after_shift empty h).refused
seen_sum h = rw (own_counts h) (many_sum (taken empty h))

-- a tally that grew from an empty one, with k free numbers of seen, takes the next k entries and no more
module _ (t : Tally) (sum : t.seen ≡ t.passed + t.refused) where
  count_below : (p : Bool) → t.seen < full → count_of t p < full
  count_below true h = omega arith
  count_below false h = omega arith

  raised_seen : (p : Bool) → (raised t p).seen ≡ t.seen + 1
  raised_seen true = refl
  raised_seen false = refl

  raised_sum : (p : Bool) → (raised t p).seen ≡ (raised t p).passed + (raised t p).refused
  raised_sum true = omega arith
  raised_sum false = omega arith

taken_next : (k : ℕ) (t : Tally) (h : List Bool) → t.seen + k ≡ full → t.seen ≡ t.passed + t.refused → taken t h ≡ take k h
unfolding taken
taken_next zero t [] e s = refl
taken_next (suc k) t [] e s = refl
taken_next zero t (p ∷ h) e s = rw (seen_full t p (omega arith)) (taken_next zero t h e s)
taken_next (suc k) t (p ∷ h) e s =
    let room : t.seen < full = omega arith in
    rw (has_room t p room (count_below t s p room)) (ap (λ (l : List Bool). p ∷ l) (taken_next k (raised t p) h (omega (arith, raised_seen t s p)) (raised_sum t s p)))

-- so the entries taken from empty are the first 4,294,967,295
pub taken_first : (h : List Bool) → taken empty h ≡ take full h
taken_first h = taken_next full empty h refl refl

pub first_counts : (h : List Bool) → tally_after_shift empty h ≡ shift_counts (take full h)
first_counts h = own_counts h ∙ ap shift_counts (taken_first h)

pub all_counts : (h : List Bool) → length h ≤ full → tally_after_shift empty h ≡ shift_counts h
all_counts h l = first_counts h ∙ ap shift_counts (take_all full h l)

-- and an answer is taken exactly where fewer came before it
pub taken_while : (h : List Bool) (p : Bool) → (tally_of (tally_after_shift empty h) p).ok ≡ ltb (length h) full
taken_while h p = at (ltb (length h) full) refl
  where
    seen : (tally_after_shift empty h).seen ≡ min full (length h)
    seen = ap (λ (t : Tally). t.seen) (own_counts h) ∙ ap length (taken_first h) ∙ length-take full h

    at : (b : Bool) → ltb (length h) full ≡ b → (tally_of (tally_after_shift empty h) p).ok ≡ ltb (length h) full
    at true e =
        let room : (tally_after_shift empty h).seen < full = omega (arith, seen, ltb-true (length h) full e) in
        ap (λ (a : Tallied). a.ok) (has_room (tally_after_shift empty h) p room (count_below (tally_after_shift empty h) (seen_sum h) p room)) ∙ sym e
    at false e = ap (λ (a : Tallied). a.ok) (seen_full (tally_after_shift empty h) p (omega (arith, seen, ltb-false (length h) full e))) ∙ sym e
