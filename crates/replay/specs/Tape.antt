-- What each entry of a tape leaves and prints. An entry is a kind (1 byte), its body's length (4) and its body. t and r are the buffers for the
-- nullifier table and the anchor roll, s is what was kept from the entry before: the ledger, and how many bytes of each buffer are lent to it.
-- Assumes nothing.
use Rattle.std.specs.Prelude.{◌≡◌, ℕ, zero, suc, ◌+◌, ◌*◌, ◌%◌, ◌^◌, ◌≤◌, Bool, true, false, cond, ◌&&◌, List, [], ◌++◌, length, take, drop, replicate, ◌==◌, nat_eq, nat_le, slice_index, Option, Some, None, Result, Ok, Err}
use Prim.Native.String.{String}
use Rattle.octets.specs.Numbers.{little, big_bytes}
use Rattle.octets.specs.Parts.{zeros, field, pasted}
use Rattle.text.specs.Words.{ascii, name_line}
use Rattle.text.specs.Answers.{answer_words, answer_line, answer_and_row}
use Rattle.text.specs.Hex.{hex}
use Rattle.text.specs.Pen.{Pen, Wrote}
use Rattle.refusals.specs.declared.Answer.{Answer}
use Rattle.refusals.specs.Rules.{answer, accepted, is_accepted, first}
use Rattle.sha256.specs.Hash.{sha256_of}
use Rattle.desk.specs.Drafts.{desk_answer, buffer_after}
use Rattle.ledger.specs.declared.Ledger.{Ledger}
use Rattle.ledger.specs.Ledgers.{empty_ledger, open_refusals, opened_of, roll_after_open, close_refusals, closed_of, roll_after_close}
use Rattle.ledgerbytes.specs.LedgerBytes.{ledger_of}
use Rattle.judge.specs.Judging.{answer_of, ledger_after_case, table_after_case}
use Rattle.replay.specs.declared.State.{State}
use Rattle.replay.specs.declared.Entry.{Entry}
use Rattle.lines.specs.declared.Broken.{Broken}
use Rattle.replay.specs.Looks.{ledger_text, rows_text, memory_text, seal_text}

-- what an entry leaves, and what is printed of it
pub record Turn : Type 0 where
  pub state : State
  pub table : List ℕ
  pub roll : List ℕ
  pub text : List ℕ

abbrev pub turn_of : State → List ℕ → List ℕ → List ℕ → Turn
turn_of s t r x = record { state = s; table = t; roll = r; text = x }

-- the run goes on with this ledger, on n bytes of the table's buffer and m of the roll's
abbrev pub running_on : Ledger → ℕ → ℕ → State
running_on l n m = record { on = true; ledger = l; table = n; roll = m }

-- a ledger with nothing in it, not even an anchor, on no bytes: before the first entry, and after the run
abbrev pub nothing : Bool → State
nothing on = record { on = on; ledger = empty_ledger 0; table = 0; roll = 0 }

-- what is no entry ends the run
unfoldable pub broken_turn : List ℕ → List ℕ → Turn
broken_turn t r = turn_of (nothing false) t r (answer_line (ascii "tape") (answer 50 0))

-- an entry's kind is the code of a letter
abbrev pub is_kind : String → ℕ → Bool
is_kind letter kind = kind == slice_index (ascii letter) 0

-- an entry that lends n and m bytes: its body is whole, and the buffers have so many
unfoldable pub can_lend : Bool → ℕ → ℕ → ℕ → ℕ → Bool
can_lend whole n m table roll = whole && (nat_le n table && nat_le m roll)

-- its turn is u where it can lend them
unfoldable pub lends : (ℕ → ℕ → Bool) → (ℕ → ℕ → Turn) → ℕ → ℕ → List ℕ → List ℕ → Turn
lends whole u n m t r = cond (can_lend (whole n m) n m (length t) (length r)) (u n m) (broken_turn t r)

-- F OPENS a fresh ledger on the lent bytes as they stand
unfoldable pub fresh_on : ℕ → ℕ → List ℕ → List ℕ → Turn
fresh_on n m t r =
    turn_of (running_on (opened_of (take m r)) n m) t (roll_after_open (take m r) ++ drop m r) (answer_line (ascii "open") (first (open_refusals (take m r))))

unfoldable pub fresh_turn : List ℕ → List ℕ → State → Turn
fresh_turn t r s = fresh_on s.table s.roll t r

-- O ZEROES bytes and opens a fresh ledger on them. Body: how many of the table (4) and of the roll (4)
unfoldable pub open_on : ℕ → ℕ → List ℕ → List ℕ → Turn
open_on n m t r = fresh_on n m (zeros n ++ drop n t) (zeros m ++ drop m r)

unfoldable pub open_turn : List ℕ → List ℕ → List ℕ → Turn
open_turn body t r = lends (λ n m. nat_eq (length body) 8) (λ n m. open_on n m t r) (little (field 0 4 body)) (little (field 4 4 body)) t r

-- P AND K PLANT any ledger, a damaged one too. Body: the ledger (988), how many bytes of the table (4) and of the roll (4); of P also these bytes, which
-- are zeros of K, since a body that has ended reads so
unfoldable pub plant_on : ℕ → ℕ → List ℕ → List ℕ → List ℕ → Turn
plant_on n m body t r =
    turn_of (running_on (ledger_of body) n m) (field 996 n body ++ drop n t) (field (996 + n) m body ++ drop m r) (answer_line (ascii "plant") accepted)

unfoldable pub plant_length : Bool → ℕ → ℕ → ℕ
plant_length given n m = cond given (996 + n + m) 996

unfoldable pub plant_turn : Bool → List ℕ → List ℕ → List ℕ → Turn
plant_turn given body t r =
    lends (λ n m. nat_eq (length body) (plant_length given n m)) (λ n m. plant_on n m body t r) (little (field 988 4 body)) (little (field 992 4 body)) t r

-- T AND A LAY ROWS by rule, T in the table and A in the roll. Body: the first row (4), how many (4), a number (8), a step (8) and 24 bytes. A row is
-- the number's eight bytes, the highest first, and behind them the 24; the next row's number is higher by the step, and 2^64 is 0 again
unfoldable pub row_laid : ℕ → ℕ → List ℕ → List ℕ → List ℕ
row_laid at number tail b = pasted (at + 8) tail (pasted at (big_bytes 8 number) b)

unfoldable pub rows_laid : ℕ → ℕ → ℕ → ℕ → List ℕ → List ℕ → List ℕ
rows_laid zero at number step tail b = b
rows_laid (suc n) at number step tail b = rows_laid n (at + 32) ((number + step) % 2 ^ 64) step tail (row_laid at number tail b)

unfoldable pub laid_by : List ℕ → List ℕ → List ℕ
laid_by body b = rows_laid (little (field 4 4 body)) (little (field 0 4 body) * 32) (little (field 8 8 body)) (little (field 16 8 body)) (take 24 (drop 24 body)) b

-- the body is whole, and so many lent bytes have the rows
unfoldable pub can_lay : List ℕ → ℕ → Bool
can_lay body lent = length body == 48 && nat_le ((little (field 0 4 body) + little (field 4 4 body)) * 32) lent

unfoldable pub table_turn : List ℕ → List ℕ → List ℕ → State → Turn
table_turn body t r s =
    cond (can_lay body s.table) (turn_of s (laid_by body (take s.table t) ++ drop s.table t) r (answer_line (ascii "fill") accepted)) (broken_turn t r)

unfoldable pub roll_turn : List ℕ → List ℕ → List ℕ → State → Turn
roll_turn body t r s =
    cond (can_lay body s.roll) (turn_of s t (laid_by body (take s.roll r) ++ drop s.roll r) (answer_line (ascii "fill") accepted)) (broken_turn t r)

unfoldable pub lay_turn : ℕ → List ℕ → List ℕ → List ℕ → State → Turn
lay_turn kind body t r s =
    cond (is_kind "P" kind) (plant_turn true body t r)
    (cond (is_kind "K" kind) (plant_turn false body t r)
    (cond (is_kind "T" kind) (table_turn body t r s)
    (cond (is_kind "A" kind) (roll_turn body t r s)
    (broken_turn t r))))

-- C JUDGES a case, which is the body; behind the line of one that is refused as spent stands that of the row
unfoldable pub case_on : ℕ → ℕ → Ledger → List ℕ → List ℕ → List ℕ → Turn
case_on n m l body t r =
    turn_of (running_on (ledger_after_case body (take n t) (take m r) l) n m) (table_after_case body (take n t) (take m r) l ++ drop n t) r
    (answer_and_row (ascii "case") (answer_of body (take n t) (take m r) l))

unfoldable pub case_turn : List ℕ → List ℕ → List ℕ → State → Turn
case_turn body t r s = case_on s.table s.roll s.ledger body t r

-- D WRITES A CASE from a draft, by the desk, and judges what was written. Body: how many bytes of 0xa5 are lent as the buffer (4), and behind that the draft.
-- The desk's line has a hash of every byte of the buffer
abbrev pub desk_most : ℕ
desk_most = 4352

unfoldable pub desk_line : Answer → List ℕ → List ℕ
desk_line a b = answer_words (ascii "desk") a ++ ascii " " ++ hex (sha256_of b) ++ ascii "\n"

abbrev pub behind : List ℕ → Turn → Turn
behind x u = turn_of u.state u.table u.roll (x ++ u.text)

unfoldable pub desk_on : List ℕ → List ℕ → List ℕ → List ℕ → State → Turn
desk_on d b t r s =
    cond (is_accepted (desk_answer d (length b))) (behind (desk_line (desk_answer d (length b)) (buffer_after d b)) (case_turn (buffer_after d b) t r s))
    (turn_of s t r (desk_line (desk_answer d (length b)) (buffer_after d b)))

unfoldable pub can_draft : List ℕ → Bool
can_draft body = nat_le 4 (length body) && nat_le (little (field 0 4 body)) desk_most

unfoldable pub desk_turn : List ℕ → List ℕ → List ℕ → State → Turn
desk_turn body t r s = cond (can_draft body) (desk_on (drop 4 body) (replicate (little (field 0 4 body)) 0xa5) t r s) (broken_turn t r)

-- B CLOSES a block
unfoldable pub block_on : ℕ → ℕ → Ledger → List ℕ → List ℕ → Turn
block_on n m l t r =
    turn_of (running_on (closed_of (take n t) (take m r) l) n m) t (roll_after_close (take n t) (take m r) l ++ drop m r)
    (answer_line (ascii "block") (first (close_refusals (take n t) (take m r) l)))

unfoldable pub block_turn : List ℕ → List ℕ → State → Turn
block_turn t r s = block_on s.table s.roll s.ledger t r

-- L, R and M LOOK at the ledger, at its rows and at its memory
unfoldable pub look_turn : ℕ → List ℕ → List ℕ → State → Turn
look_turn kind t r s =
    cond (is_kind "L" kind) (turn_of s t r (ledger_text s.ledger))
    (cond (is_kind "R" kind) (turn_of s t r (rows_text (take s.table t) (take s.roll r) s.ledger))
    (cond (is_kind "M" kind) (turn_of s t r (memory_text (take s.table t) (take s.roll r) s.ledger))
    (broken_turn t r)))

-- F, B and those three have an empty body
unfoldable pub bare_turn : ℕ → List ℕ → List ℕ → State → Turn
bare_turn kind t r s = cond (is_kind "F" kind) (fresh_turn t r s) (cond (is_kind "B" kind) (block_turn t r s) (look_turn kind t r s))

-- S JUDGES A SEAL. Body: the gain (8), the offset (8) and the seal (25)
unfoldable pub seal_turn : List ℕ → List ℕ → List ℕ → State → Turn
seal_turn body t r s = cond (length body == 41) (turn_of s t r (seal_text body)) (broken_turn t r)

-- N NAMES the run that follows, by a line of its own. Body: the name, of at most 100 bytes
unfoldable pub name_turn : List ℕ → List ℕ → List ℕ → State → Turn
name_turn body t r s = cond (nat_le (length body) 100) (turn_of s t r (name_line body)) (broken_turn t r)

-- AN ENTRY by its kind; of a kind that is none of these, by whether its body is empty
unfoldable pub other_turn : ℕ → List ℕ → List ℕ → List ℕ → State → Turn
other_turn kind body t r s = cond (length body == 0) (bare_turn kind t r s) (lay_turn kind body t r s)

unfoldable pub entry_turn : ℕ → List ℕ → List ℕ → List ℕ → State → Turn
entry_turn kind body t r s =
    cond (is_kind "O" kind) (open_turn body t r)
    (cond (is_kind "C" kind) (case_turn body t r s)
    (cond (is_kind "D" kind) (desk_turn body t r s)
    (cond (is_kind "S" kind) (seal_turn body t r s)
    (cond (is_kind "N" kind) (name_turn body t r s)
    (other_turn kind body t r s)))))

-- WHAT STANDS NEXT on the tape, whose body was read to the start of the buffer b: an entry; at the end nothing, and nothing is printed; or what is no entry
abbrev pub Next : Type 0
Next = Result (Option Entry) Broken

unfoldable pub next_turn : Next → List ℕ → List ℕ → List ℕ → State → Turn
next_turn (Ok (Some e)) b t r s = entry_turn e.kind (take e.length b) t r s
next_turn (Ok None) b t r s = turn_of (nothing false) t r []
next_turn (Err e) b t r s = broken_turn t r

-- how many bytes an entry's body has
abbrev pub entry_length : Next → ℕ
entry_length (Ok (Some e)) = e.length
entry_length (Ok None) = 0
entry_length (Err e) = 0

-- the bytes that are lent lie within the buffers t and r
pub record LentWithin (s : State) (t r : List ℕ) : Type 0 where
  pub table : s.table ≤ length t
  pub roll : s.roll ≤ length r

-- the longest text of an entry: a look at 2,048 rows of the table, 71 bytes each, and 1,024 of the roll, 72 each
abbrev pub longest : ℕ
longest = 219136

-- THE CONTRACT of whatever plays an entry: the state s that it answers, the buffers t and r that it leaves, and the text, written from p to q, are those of
-- the turn u. The last part follows; it is what the next entry asks
pub record Plays (u : Turn) (t r : List ℕ) (p q : Pen) (s : State) : Type 0 where
  pub state : s ≡ u.state
  pub table : t ≡ u.table
  pub roll : r ≡ u.roll
  pub text : Wrote longest u.text p q
  pub within : LentWithin s t r
