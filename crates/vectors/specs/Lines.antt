-- A line for each vector: its name, and the hash or the root that it has; or that it is refused.
-- Assumes nothing.
use Rattle.std.specs.Prelude.{ℕ, List, ◌++◌}
use Rattle.text.specs.Words.{ascii}
use Rattle.text.specs.Hex.{hex}

unfoldable pub digest_line : List ℕ → List ℕ → List ℕ
digest_line name bytes = name ++ ascii " " ++ hex bytes ++ ascii "\n"

unfoldable pub refused_line : List ℕ → List ℕ
refused_line name = name ++ ascii " refused\n"
