-- Where the tally has room it is raised, and else it stays.
-- Assumes nothing.
use Prim.Native.Nat.{◌≤◌, ◌<◌}
use mathlib.Core.Path.{◌≡◌, refl}
use mathlib.Core.Logic.{◌⊎◌, inl, inr}
use mathlib.Core.Bool.{Bool, true, false}
use borrow.Author.Tests.{leb-true, leb-false, le-leb, lt-leb}
use Rattle.books.specs.declared.Tally.{Tally}
use Rattle.books.specs.Tally.{full, is_full, count_of, raised, no, yes, tally_of}

abbrev pub Decided : Tally → Bool → Type 0
Decided t p = (tally_of t p ≡ no t) ⊎ (tally_of t p ≡ yes (raised t p))

module _ (t : Tally) (p : Bool) where
  pub seen_full : full ≤ t.seen → tally_of t p ≡ no t
  unfolding tally_of
  seen_full h = rw (le-leb full t.seen h)

  pub count_full : t.seen < full → full ≤ count_of t p → tally_of t p ≡ no t
  unfolding tally_of
  count_full h k = rw (lt-leb full t.seen h, le-leb full (count_of t p) k)

  pub has_room : t.seen < full → count_of t p < full → tally_of t p ≡ yes (raised t p)
  unfolding tally_of
  has_room h k = rw (lt-leb full t.seen h, lt-leb full (count_of t p) k)

  pub decided : Decided t p
  decided = at_seen (is_full t.seen) refl
    where
      at_count : t.seen < full → (b : Bool) → is_full (count_of t p) ≡ b → Decided t p
      at_count h true e = inl (count_full h (leb-true full (count_of t p) e))
      at_count h false e = inr (has_room h (leb-false full (count_of t p) e))

      at_seen : (b : Bool) → is_full t.seen ≡ b → Decided t p
      at_seen true e = inl (seen_full (leb-true full t.seen e))
      at_seen false e = at_count (leb-false full t.seen e) (is_full (count_of t p)) refl
