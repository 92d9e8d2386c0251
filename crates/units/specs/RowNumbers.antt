-- A row by its number.
-- Assumes nothing.
use Rattle.std.specs.Prelude.{ℕ}
use Rattle.units.specs.declared.Row.{Row}

-- row k, counted from 0
abbrev pub row_numbered : ℕ → Row
row_numbered k = record { 0 = k }
