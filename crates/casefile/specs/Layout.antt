-- The case file: which fields it has, in which order, and how long each is. Everything is over p, the length of the proof, on which the later offsets depend.
-- Assumes nothing.
use Rattle.std.specs.Prelude.{ℕ, ◌+◌, ◌-◌, ◌*◌, List, [], ◌∷◌, ◌++◌, length, get_or, take, drop}
use Rattle.octets.specs.Parts.{field}

-- the public description: both public values, the anchor, nullifiers, commitments, ephemeral key, seed, tags, proof, ciphertexts
unfoldable pub description : ℕ → List ℕ
description p = 8 ∷ 8 ∷ 32 ∷ 32 ∷ 32 ∷ 32 ∷ 32 ∷ 32 ∷ 32 ∷ 32 ∷ 32 ∷ p ∷ 601 ∷ 601 ∷ []

-- an old note: a_sk, a_pk, value, rho, r, position, path
unfoldable pub old_note_lengths : List ℕ
old_note_lengths = 32 ∷ 32 ∷ 8 ∷ 32 ∷ 32 ∷ 4 ∷ 29 * 32 ∷ []

-- a new note: a_pk, value, rho, r
unfoldable pub new_note_lengths : List ℕ
new_note_lengths = 32 ∷ 8 ∷ 32 ∷ 32 ∷ []

-- the whole file: description, transaction key, and the witness, which ends with phi
unfoldable pub lengths : ℕ → List ℕ
lengths p = description p ++ (32 ∷ []) ++ old_note_lengths ++ old_note_lengths ++ new_note_lengths ++ new_note_lengths ++ (32 ∷ [])

unfoldable pub total : List ℕ → ℕ
total [] = 0
total (n ∷ ns) = n + total ns

-- a field starts where the fields before it end
unfoldable pub offset : ℕ → ℕ → ℕ
offset p k = total (take k (lengths p))

unfoldable pub case_length : ℕ → ℕ
case_length p = total (lengths p)

-- how long the proof is in each edition of the description
abbrev pub first_proof : ℕ
first_proof = 296

abbrev pub second_proof : ℕ
second_proof = 192

-- in a file the proof has the bytes that the other fields leave: so a file says its edition by its length
unfoldable pub proof_length : List ℕ → ℕ
proof_length c = length c - case_length 0

-- field k of the file c
unfoldable pub part_of : ℕ → List ℕ → List ℕ
part_of k c = field (offset (proof_length c) k) (get_or (lengths (proof_length c)) k 0) c

-- the bytes of field k that the file has: all of them, unless the file is too short
unfoldable pub present_of : ℕ → List ℕ → List ℕ
present_of k c = take (get_or (lengths (proof_length c)) k 0) (drop (offset (proof_length c) k) c)

-- all fields of a file of those lengths, from index at on
unfoldable pub parts_from : ℕ → List ℕ → List ℕ → List (List ℕ)
parts_from at [] c = []
parts_from at (n ∷ ns) c = field at n c ∷ parts_from (at + n) ns c

-- the names of the fields, by their place in the order; i is 1 or 2
abbrev pub vpub_old : ℕ
vpub_old = 0

abbrev pub vpub_new : ℕ
vpub_new = 1

abbrev pub anchor : ℕ
anchor = 2

abbrev pub nullifier : ℕ → ℕ
nullifier i = 2 + i

abbrev pub commitment : ℕ → ℕ
commitment i = 4 + i

abbrev pub ephemeral_key : ℕ
ephemeral_key = 7

abbrev pub seed : ℕ
seed = 8

abbrev pub tag : ℕ → ℕ
tag i = 8 + i

abbrev pub proof : ℕ
proof = 11

abbrev pub ciphertext : ℕ → ℕ
ciphertext i = 11 + i

abbrev pub transaction_key : ℕ
transaction_key = 14

-- part k of old note i, and of new note i, counted from 0
abbrev pub of_old : ℕ → ℕ → ℕ
of_old i k = 15 + 7 * (i - 1) + k

abbrev pub of_new : ℕ → ℕ → ℕ
of_new i k = 29 + 4 * (i - 1) + k

abbrev pub phi : ℕ
phi = 37
