-- The file c after the bytes b were written where field k lies, and whether it has that place; where it does not, it stays as it is.
-- Assumes nothing.
use Rattle.std.specs.Prelude.{ℕ, Bool, List}
use Rattle.octets.specs.Parts.{fits_in, pasted}
use Rattle.casefile.specs.Layout.{offset, proof_length}

unfoldable pub has_place : ℕ → List ℕ → List ℕ → Bool
has_place k b c = fits_in (offset (proof_length c) k) b c

unfoldable pub put_part : ℕ → List ℕ → List ℕ → List ℕ
put_part k b c = pasted (offset (proof_length c) k) b c
