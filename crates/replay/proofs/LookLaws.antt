-- The pieces that the calls write are the texts of the definitions.
-- Assumes nothing.
use Rattle.std.proofs.Common.{◌≡◌, ℕ, ◌*◌, ◌≤◌, min, List, ◌++◌, take, drop, sym, ◌∙◌, append_assoc, arith}
use lib.Ieee.{Float}
use Rattle.octets.specs.Parts.{field}
use Rattle.text.specs.Words.{ascii}
use Rattle.text.specs.Decimal.{decimal}
use Rattle.text.specs.Hex.{hex, hex64}
use Rattle.text.specs.Answers.{answer_words, answer_line}
use Rattle.refusals.specs.declared.Answer.{Answer}
use Rattle.refusals.specs.Rules.{accepted, accepted}
use Rattle.sha256.specs.Hash.{sha256_of}
use Rattle.tree.specs.Record.{record_root}
use Rattle.ledger.specs.declared.Ledger.{Ledger}
use Rattle.ledger.specs.Ledgers.{room_in}
use Rattle.seal.specs.declared.Reading.{Reading}
use Rattle.std.specs.Prelude.{Result, Ok, Err}
use Rattle.seal.specs.declared.SealRefusal.{SealRefusal}
use Rattle.seal.specs.Body.{float_of, read_of}
use Rattle.seal.specs.Pull.{judge_of, answer_for}
use Rattle.replay.specs.Tape.{desk_line}
use Rattle.replay.specs.Looks.{ledger_text, rows_shown, row_lines, rows_text, memory_text, pull_bits, sealed_text, read_text, seal_text}

pub pool_as : {pool pool' : ℕ} {root root' : List ℕ} → pool ≡ pool' → root ≡ root'
    → (ascii " pool " ++ decimal pool) ++ ((ascii " root " ++ hex root) ++ ascii "\n")
    ≡ ascii " pool " ++ decimal pool' ++ ascii " root " ++ hex root' ++ ascii "\n"
pool_as e f = rw (e, f) (simp append_assoc)

pub ledger_as : (l : Ledger)
    → (ascii "ledger spent " ++ decimal l.nullifiers) ++ ((ascii " leaves " ++ decimal l.tree.leaves) ++ ((ascii " anchors " ++ decimal l.anchors)
    ++ (ascii " pool " ++ decimal l.pool.0 ++ ascii " root " ++ hex (record_root l.tree) ++ ascii "\n")))
    ≡ ledger_text l
unfolding ledger_text
ledger_as l = simp append_assoc

pub memory_as : (t r : List ℕ) (l : Ledger)
    → (ascii "memory " ++ hex (sha256_of t)) ++ ((ascii " " ++ hex (sha256_of r)) ++ ((ascii " " ++ hex (sha256_of l.tree.nodes)) ++ ascii "\n")) ≡ memory_text t r l
unfolding memory_text
memory_as t r l = simp append_assoc

pub desk_as : (a : Answer) (b : List ℕ) → answer_words (ascii "desk") a ++ ((ascii " " ++ hex (sha256_of b)) ++ ascii "\n") ≡ desk_line a b
unfolding desk_line
desk_as a b = simp append_assoc

pub passed_as : (a : Answer) (pull : Float) (bits : ℕ) → bits ≡ pull_bits pull
    → answer_words (ascii "seal") a ++ (ascii " " ++ (hex64 bits ++ ascii "\n")) ≡ answer_words (ascii "seal") a ++ ascii " " ++ hex64 (pull_bits pull) ++ ascii "\n"
passed_as a pull bits e = rw e (simp append_assoc)

-- a seal's text, by its answer
pub passed_is : (sealed : Result Float SealRefusal) (a : Answer) (pull : Float) → sealed ≡ Ok pull → a ≡ accepted
    → answer_words (ascii "seal") a ++ ascii " " ++ hex64 (pull_bits pull) ++ ascii "\n" ≡ sealed_text sealed
unfolding sealed_text
passed_is sealed a pull e h = rw (h, e)

pub refused_is : (sealed : Result Float SealRefusal) (a : Answer) (refusal : SealRefusal) → sealed ≡ Err refusal → a ≡ answer_for refusal
    → answer_line (ascii "seal") a ≡ sealed_text sealed
unfolding sealed_text
refused_is sealed a refusal e h = rw (h, e)

-- by what its bytes say
pub seal_is : (body : List ℕ) (g o : Float) (reading : Reading) (read : Result Reading SealRefusal) (sealed : Result Float SealRefusal) → g ≡ float_of (field 0 8 body) → o ≡ float_of (field 8 8 body)
    → read ≡ read_of (take 25 (drop 16 body)) → read ≡ Ok reading → sealed ≡ judge_of (record { gain = g; offset = o }) reading.gate reading.raw → sealed_text sealed ≡ seal_text body
unfolding seal_text read_text
seal_is body g o reading read sealed h i j k l =
    let e : read_of (take 25 (drop 16 body)) ≡ Ok reading = sym j ∙ k in
    rw (l, h, i, e)

pub seal_not : (body : List ℕ) (read : Result Reading SealRefusal) (a : Answer) (refusal : SealRefusal) → read ≡ read_of (take 25 (drop 16 body)) → read ≡ Err refusal → a ≡ answer_for refusal
    → answer_line (ascii "seal") a ≡ seal_text body
unfolding seal_text read_text
seal_not body read a refusal j k l =
    let e : read_of (take 25 (drop 16 body)) ≡ Err refusal = sym j ∙ k in
    rw (l, e)

-- all rows, by how many of each are shown
pub rows_as : (t r : List ℕ) (l : Ledger) {n m : ℕ} → n ≡ rows_shown 2048 l.nullifiers t → m ≡ rows_shown 1024 l.anchors r
    → row_lines (ascii "spent ") n t ++ row_lines (ascii "anchor ") m r ≡ rows_text t r l
unfolding rows_text
rows_as t r l h k = rw (h, k)

-- what is shown is there, and is no more than the most
pub shown_there : {n : ℕ} (most count len : ℕ) → n ≡ min count (room_in most len) → n * 32 ≤ len
unfolding room_in
shown_there most count len h = omega arith

pub shown_most : {n : ℕ} (most count len : ℕ) → n ≡ min count (room_in most len) → n ≤ most
unfolding room_in
shown_most most count len h = omega arith
