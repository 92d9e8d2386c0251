-- The shift tally: three counts that never turn over. Where one that an answer raises has no number left, the tally stays as it is.
-- Assumes nothing.
use Rattle.std.specs.Prelude.{ℕ, ◌+◌, Bool, true, false, ◌||◌, cond, leb, Option, is_some, unwrap_or}
use Rattle.books.specs.declared.Tally.{Tally}

-- the last number below 2^32
abbrev pub full : ℕ
full = 4294967295

abbrev pub is_full : ℕ → Bool
is_full n = leb full n

-- the count that an answer raises beside seen: true stands for a pass, false for a refusal
abbrev pub count_of : Tally → Bool → ℕ
count_of t true = t.passed
count_of t false = t.refused

-- the tally with one answer more
abbrev pub raised : Tally → Bool → Tally
raised t true = record { seen = t.seen + 1; passed = t.passed + 1; refused = t.refused }
raised t false = record { seen = t.seen + 1; passed = t.passed; refused = t.refused + 1 }

-- whether an answer was counted, and the tally as it then stands
pub record Tallied : Type 0 where
  pub ok : Bool
  pub tally : Tally

abbrev pub no : Tally → Tallied
no t = record { ok = false; tally = t }

abbrev pub yes : Tally → Tallied
yes t = record { ok = true; tally = t }

unfoldable pub tally_of : Tally → Bool → Tallied
tally_of t p = cond (is_full t.seen || is_full (count_of t p)) (no t) (yes (raised t p))

-- the same told by a tally with one answer more, or by none where it stays
abbrev pub told : Tally → Option Tally → Tallied
told t o = record { ok = is_some o; tally = unwrap_or o t }
