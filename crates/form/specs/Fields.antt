-- The fields of a form, in the order of the case file: all but those that the desk works out. k is a field's place in this order, counted from 0.
-- Assumes nothing.
use Rattle.std.specs.Prelude.{ℕ, ◌-◌, ◌/◌, ◌^◌, Bool, ◌&&◌, ◌||◌, List, [], ◌∷◌, ◌++◌, ltb, get_or}
use Rattle.octets.specs.Numbers.{little_bytes}
use Rattle.octets.specs.Parts.{zeros, same}
use Rattle.text.specs.Words.{ascii}
use Rattle.form.specs.declared.fields.Kind.{Kind}
use Rattle.form.specs.declared.fields.Kind.TheVariants.{Amount, Position, Hex, Proof}
use Rattle.form.specs.Lines.{word_of, value_of}
use Rattle.form.specs.Digits.{is_number, number_from, is_hex, bytes_in}

-- a name, how many bytes of fields that are worked out lie before it in the case file, and what its value is
pub record Field : Type 0 where
  pub name : List ℕ
  pub gap : ℕ
  pub kind : Kind

abbrev pub field : List ℕ → ℕ → Kind → Field
field name gap kind = record { name = name; gap = gap; kind = kind }

-- the largest numbers that eight and four bytes hold
abbrev pub most_amount : ℕ
most_amount = 256 ^ 8 - 1

abbrev pub most_position : ℕ
most_position = 256 ^ 4 - 1

-- the digits s are a value of that kind: the proof has 296 bytes in the first edition and 192 in the second
unfoldable pub accepts : Kind → List ℕ → Bool
accepts Amount s = is_number most_amount s
accepts Position s = is_number most_position s
accepts (Hex n) s = is_hex n s
accepts Proof s = is_hex 592 s || is_hex 384 s

-- the bytes that it then has in the case file, and how many these are in the edition whose proof has p bytes
unfoldable pub bytes_of : Kind → List ℕ → List ℕ
bytes_of Amount s = little_bytes 8 (number_from 0 s)
bytes_of Position s = little_bytes 4 (number_from 0 s)
bytes_of (Hex n) s = bytes_in s
bytes_of Proof s = bytes_in s

unfoldable pub size_of : ℕ → Kind → ℕ
size_of p Amount = 8
size_of p Position = 4
size_of p (Hex n) = n / 2
size_of p Proof = p

-- THE TABLE. Worked out are both nullifiers and both commitments, before the ephemeral key; both tags, before the proof; a_pk of an old note, before its
-- value; and rho of a new note, before its r
unfoldable pub fields : List Field
fields =
    field (ascii "vpub_old") 0 Amount ∷
    field (ascii "vpub_new") 0 Amount ∷
    field (ascii "anchor") 0 (Hex 64) ∷
    field (ascii "ephemeral_key") 128 (Hex 64) ∷
    field (ascii "seed") 0 (Hex 64) ∷
    field (ascii "proof") 64 Proof ∷
    field (ascii "ciphertext_1") 0 (Hex 1202) ∷
    field (ascii "ciphertext_2") 0 (Hex 1202) ∷
    field (ascii "transaction_key") 0 (Hex 64) ∷
    field (ascii "old_1_key") 0 (Hex 64) ∷
    field (ascii "old_1_value") 32 Amount ∷
    field (ascii "old_1_rho") 0 (Hex 64) ∷
    field (ascii "old_1_r") 0 (Hex 64) ∷
    field (ascii "old_1_position") 0 Position ∷
    field (ascii "old_1_path") 0 (Hex 1856) ∷
    field (ascii "old_2_key") 0 (Hex 64) ∷
    field (ascii "old_2_value") 32 Amount ∷
    field (ascii "old_2_rho") 0 (Hex 64) ∷
    field (ascii "old_2_r") 0 (Hex 64) ∷
    field (ascii "old_2_position") 0 Position ∷
    field (ascii "old_2_path") 0 (Hex 1856) ∷
    field (ascii "new_1_address") 0 (Hex 64) ∷
    field (ascii "new_1_value") 0 Amount ∷
    field (ascii "new_1_r") 32 (Hex 64) ∷
    field (ascii "new_2_address") 0 (Hex 64) ∷
    field (ascii "new_2_value") 0 Amount ∷
    field (ascii "new_2_r") 32 (Hex 64) ∷
    field (ascii "phi") 0 (Hex 64) ∷
    []

abbrev pub field_count : ℕ
field_count = 28

-- field k; behind the last there is none, and that has no name
unfoldable pub field_at : ℕ → Field
field_at k = get_or fields k (field [] 0 (Hex 0))

-- the line l is field k: it begins with the name, and its value is one of that kind
unfoldable pub is_field : ℕ → List ℕ → Bool
is_field k l = ltb k field_count && (same (word_of l) (field_at k).name && accepts (field_at k).kind (value_of l))

-- what it then adds to the case file: the bytes that are worked out, as zeros, and its own
unfoldable pub field_bytes : ℕ → List ℕ → List ℕ
field_bytes k s = zeros (field_at k).gap ++ bytes_of (field_at k).kind s
