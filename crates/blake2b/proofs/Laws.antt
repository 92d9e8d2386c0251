-- What callers may use of a digest without opening its definition.
-- Assumes nothing.
use Rattle.std.proofs.Common.{◌≡◌, ℕ, List, length}
use Rattle.octets.proofs.PartLaws.{field_length}
use Rattle.blake2b.specs.Hashing.{blake2b_of}

pub blake2b_length : (nn : ℕ) (p m : List ℕ) → length (blake2b_of nn p m) ≡ nn
unfolding blake2b_of
blake2b_length nn p m = field_length 0 nn _
