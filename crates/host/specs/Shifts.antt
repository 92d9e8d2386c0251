-- A host's shift: calls on three buffers, one after the other, and the calls on a ledger that these are.
-- Assumes nothing.
use Rattle.std.specs.Prelude.{ℕ, cond, List, [], ◌∷◌, ◌++◌}
use Rattle.seal.specs.declared.Calibration.{Calibration}
use Rattle.ledgerbytes.specs.LedgerBytes.{ledger_of}
use Rattle.bag.specs.SealAndCases.{judged_cases}
use Rattle.demands.specs.Histories.{Call, judged, closed, Held}
use Rattle.demands.specs.Bags.{calls_of}
use Rattle.host.specs.Answers.{is_long}
use Rattle.host.specs.Ledgers.{ledger_after_open_call, roll_after_open_call, ledger_after_judge_call, table_after_judge_call, ledger_after_close_call, roll_after_close_call}
use Rattle.host.specs.Bags.{ledger_after_bag_call, table_after_bag_call}

-- what a host keeps: the ledger's own 988 bytes, its nullifier table and its anchor roll
pub record Buffers : Type 0 where
  pub ledger : List ℕ
  pub table : List ℕ
  pub roll : List ℕ

-- the ledger that the buffers say
abbrev pub held_in : Buffers → Held
held_in b = record { table = b.table; roll = b.roll; ledger = ledger_of b.ledger }

-- the calls that can change the buffers of a ledger that was opened: a case; a bag, with the scanner's calibration and what is lent for its report; a
-- block
pub data HostCall : Type 0 where
  judge_call : List ℕ → HostCall
  bag_call : Calibration → List ℕ → List ℕ → HostCall
  close_call : HostCall

-- the buffers after a call, and after some
unfoldable pub buffers_after : HostCall → Buffers → Buffers
buffers_after (judge_call c) b =
    record { ledger = ledger_after_judge_call c b.ledger b.table b.roll; table = table_after_judge_call c b.ledger b.table b.roll; roll = b.roll }
buffers_after (bag_call k g o) b =
    record { ledger = ledger_after_bag_call k g b.ledger b.table b.roll o; table = table_after_bag_call k g b.ledger b.table b.roll o; roll = b.roll }
buffers_after close_call b =
    record { ledger = ledger_after_close_call b.ledger b.table b.roll; table = b.table; roll = roll_after_close_call b.ledger b.table b.roll }

unfoldable pub after_shift : List HostCall → Buffers → Buffers
after_shift [] b = b
after_shift (x ∷ xs) b = after_shift xs (buffers_after x b)

-- the buffers of a ledger that was opened in s and r, beside a table of any bytes
unfoldable pub opened_buffers : List ℕ → List ℕ → List ℕ → Buffers
opened_buffers s t r = record { ledger = ledger_after_open_call s r; table = t; roll = roll_after_open_call s r }

-- the calls on a ledger that they are; a bag with no buffer for its report is refused before a case is looked at
unfoldable pub calls_in : HostCall → List Call
calls_in (judge_call c) = judged c ∷ []
calls_in (bag_call k g o) = cond (is_long 32 o) (calls_of (judged_cases k g)) []
calls_in close_call = closed ∷ []

unfoldable pub shift_calls : List HostCall → List Call
shift_calls [] = []
shift_calls (x ∷ xs) = calls_in x ++ shift_calls xs
