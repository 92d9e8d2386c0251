-- What is printed by the entries that change nothing: a look at the ledger, at its rows, at its memory, and a seal. t and r are the lent bytes of
-- the nullifier table and the anchor roll, l the ledger.
-- Assumes nothing.
use Rattle.std.specs.Prelude.{ℕ, min, cond, List, ◌++◌, length, take, drop, is_nan, to_bits, Float, Result, Ok, Err}
use mathlib.Core.List.{flat_map}
use Rattle.std.specs.Float.{binary64}
use Rattle.octets.specs.Parts.{field}
use Rattle.octets.specs.Rows.{rows_of}
use Rattle.text.specs.Words.{ascii}
use Rattle.text.specs.Decimal.{decimal}
use Rattle.text.specs.Hex.{hex, hex64}
use Rattle.text.specs.Answers.{answer_words, answer_line}
use Rattle.refusals.specs.Rules.{accepted}
use Rattle.sha256.specs.Hash.{sha256_of}
use Rattle.tree.specs.Record.{record_root}
use Rattle.ledger.specs.declared.Ledger.{Ledger}
use Rattle.ledger.specs.Ledgers.{room_in}
use Rattle.seal.specs.declared.Calibration.{Calibration}
use Rattle.seal.specs.declared.Reading.{Reading}
use Rattle.seal.specs.declared.SealRefusal.{SealRefusal}
use Rattle.seal.specs.Body.{float_of, read_of}
use Rattle.seal.specs.Pull.{judge_of, answer_for}

-- THE LEDGER: its counts, its pool and its record's root
unfoldable pub ledger_text : Ledger → List ℕ
ledger_text l =
    ascii "ledger spent " ++ decimal l.nullifiers ++ ascii " leaves " ++ decimal l.tree.leaves ++ ascii " anchors " ++ decimal l.anchors
    ++ ascii " pool " ++ decimal l.pool.0 ++ ascii " root " ++ hex (record_root l.tree) ++ ascii "\n"

-- ITS ROWS: a line for each that the ledger's count claims and the lent bytes have room for, up to 2,048 of the table and 1,024 of the roll
unfoldable pub row_line : List ℕ → List ℕ → List ℕ
row_line word row = word ++ hex row ++ ascii "\n"

unfoldable pub row_lines : List ℕ → ℕ → List ℕ → List ℕ
row_lines word n bytes = flat_map (row_line word) (rows_of n bytes)

abbrev pub rows_shown : ℕ → ℕ → List ℕ → ℕ
rows_shown most count bytes = min count (room_in most (length bytes))

unfoldable pub rows_text : List ℕ → List ℕ → Ledger → List ℕ
rows_text t r l =
    row_lines (ascii "spent ") (rows_shown 2048 l.nullifiers t) t ++ row_lines (ascii "anchor ") (rows_shown 1024 l.anchors r) r

-- ITS MEMORY: a hash of every lent byte, the spare ones too, and of every node of the record, the unused ones too
unfoldable pub memory_text : List ℕ → List ℕ → Ledger → List ℕ
memory_text t r l =
    ascii "memory " ++ hex (sha256_of t) ++ ascii " " ++ hex (sha256_of r) ++ ascii " " ++ hex (sha256_of l.tree.nodes) ++ ascii "\n"

-- A SEAL: its answer, and the bits of a pull that passed. No pull that passes is a NaN, whose bits would be read as 0
unfoldable pub pull_bits : Float → ℕ
pull_bits pull = cond (is_nan pull) 0 (to_bits binary64 pull)

unfoldable pub sealed_text : Result Float SealRefusal → List ℕ
sealed_text (Ok pull) = answer_words (ascii "seal") accepted ++ ascii " " ++ hex64 (pull_bits pull) ++ ascii "\n"
sealed_text (Err refusal) = answer_line (ascii "seal") (answer_for refusal)

unfoldable pub read_text : Calibration → Result Reading SealRefusal → List ℕ
read_text c (Ok reading) = sealed_text (judge_of c reading.gate reading.raw)
read_text c (Err refusal) = answer_line (ascii "seal") (answer_for refusal)

-- of a body: the gain (8), the offset (8) and the seal (25)
unfoldable pub seal_text : List ℕ → List ℕ
seal_text body = read_text (record { gain = float_of (field 0 8 body); offset = float_of (field 8 8 body) }) (read_of (take 25 (drop 16 body)))
