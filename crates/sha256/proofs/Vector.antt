-- Published vectors, computed by antt from the definitions.
-- Assumes nothing.
use mathlib.Core.Path.{◌≡◌, refl}
use mathlib.Core.List.{List, [], ◌∷◌, ◌++◌}
use Prim.Native.Nat.{ℕ}
use Rattle.octets.specs.Parts.{zeros, listed, field}
use Rattle.octets.specs.Numbers.{big, big_bytes}
use Rattle.sha256.specs.Compression.{compress_of, compress_from, state_bytes, plus_of, rounds, round_of, turned, T1, T2, k_list, schedule_of, schedule, extended, next_word, word_at, rotr, shr, Ch, Maj, Σ0, Σ1, σ0, σ1}
use Rattle.sha256.specs.Hash.{padding, padded}

-- FIPS 180-4's first message, "abc", as one block
abbrev block : List ℕ
block = 0x61 ∷ 0x62 ∷ 0x63 ∷ 0x80 ∷ (zeros 59 ++ (0x18 ∷ []))

abc_block : padded (0x61 ∷ 0x62 ∷ 0x63 ∷ []) ≡ block
unfolding padded padding big_bytes
abc_block = refl

abc : compress_of block ≡
    0xba ∷ 0x78 ∷ 0x16 ∷ 0xbf ∷ 0x8f ∷ 0x01 ∷ 0xcf ∷ 0xea ∷ 0x41 ∷ 0x41 ∷ 0x40 ∷ 0xde ∷ 0x5d ∷ 0xae ∷ 0x22 ∷ 0x23 ∷
    0xb0 ∷ 0x03 ∷ 0x61 ∷ 0xa3 ∷ 0x96 ∷ 0x17 ∷ 0x7a ∷ 0x9c ∷ 0xb4 ∷ 0x10 ∷ 0xff ∷ 0x61 ∷ 0xf2 ∷ 0x00 ∷ 0x15 ∷ 0xad ∷ []
unfolding compress_of compress_from state_bytes plus_of rounds round_of turned T1 T2 k_list schedule_of schedule extended next_word word_at rotr shr Ch Maj Σ0 Σ1 σ0 σ1 listed field big big_bytes
abc = refl

-- 64 zero bytes: the parent of two empty leaves
empty : compress_of (zeros 64) ≡
    0xda ∷ 0x56 ∷ 0x98 ∷ 0xbe ∷ 0x17 ∷ 0xb9 ∷ 0xb4 ∷ 0x69 ∷ 0x62 ∷ 0x33 ∷ 0x57 ∷ 0x99 ∷ 0x77 ∷ 0x9f ∷ 0xbe ∷ 0xca ∷
    0x8c ∷ 0xe5 ∷ 0xd4 ∷ 0x91 ∷ 0xc0 ∷ 0xd2 ∷ 0x62 ∷ 0x43 ∷ 0xba ∷ 0xfe ∷ 0xf9 ∷ 0xea ∷ 0x18 ∷ 0x37 ∷ 0xa9 ∷ 0xd8 ∷ []
unfolding compress_of compress_from state_bytes plus_of rounds round_of turned T1 T2 k_list schedule_of schedule extended next_word word_at rotr shr Ch Maj Σ0 Σ1 σ0 σ1 listed field big big_bytes
empty = refl
