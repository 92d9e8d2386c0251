-- What a tally must be after a shift: a history is the list of the shift's answers, the first one first.
-- Assumes nothing.
use Rattle.std.specs.Prelude.{ℕ, ◌+◌, Bool, true, false, cond, List, [], ◌∷◌, length}
use Rattle.std.specs.Bool.{beq}
use Rattle.books.specs.declared.Tally.{Tally}
use Rattle.books.specs.Tally.{tally_of}

-- how many entries of a history are b
unfoldable pub many : Bool → List Bool → ℕ
many b [] = 0
many b (p ∷ h) = cond (beq p b) 1 0 + many b h

-- the history's own counts, and a tally with those counts added
abbrev pub shift_counts : List Bool → Tally
shift_counts h = record { seen = length h; passed = many true h; refused = many false h }

abbrev pub added : Tally → List Bool → Tally
added t h = record { seen = t.seen + length h; passed = t.passed + many true h; refused = t.refused + many false h }

abbrev pub empty : Tally
empty = record { seen = 0; passed = 0; refused = 0 }

-- the tally after a history, one answer after the other
unfoldable pub tally_after_shift : Tally → List Bool → Tally
tally_after_shift t [] = t
tally_after_shift t (p ∷ h) = tally_after_shift (tally_of t p).tally h

-- the entries that were taken: those to which the tally answered yes
abbrev pub kept_if : Bool → Bool → List Bool → List Bool
kept_if true p h = p ∷ h
kept_if false p h = h

unfoldable pub taken : Tally → List Bool → List Bool
taken t [] = []
taken t (p ∷ h) = kept_if (tally_of t p).ok p (taken (tally_of t p).tally h)
