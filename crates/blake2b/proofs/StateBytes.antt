-- The bytes of eight words, one behind the other.
-- Assumes nothing.
use Rattle.std.proofs.Common.{◌≡◌, ℕ, List, [], ◌++◌, length, get_or, ap}
use Rattle.octets.specs.Numbers.{little_bytes}
use Rattle.octets.specs.Parts.{listed, field}
use Rattle.octets.proofs.PartLaws.{field_whole}
use Rattle.blake2b.specs.Compression.{bytes_of}

pub eight : (h : List ℕ) → length h ≡ 8
    → little_bytes 8 (get_or h 0 0) ++ (little_bytes 8 (get_or h 1 0) ++ (little_bytes 8 (get_or h 2 0) ++ (little_bytes 8 (get_or h 3 0) ++ (little_bytes 8 (get_or h 4 0)
    ++ (little_bytes 8 (get_or h 5 0) ++ (little_bytes 8 (get_or h 6 0) ++ (little_bytes 8 (get_or h 7 0) ++ []))))))) ≡ bytes_of h
unfolding bytes_of field listed
eight h l = ap bytes_of (field_whole 8 h l)
