-- The pieces that the calls write are the lines of the definition.
-- Assumes nothing.
use Prim.Native.Nat.{ℕ, ◌≤◌, ◌<◌, min}
use mathlib.Core.Path.{◌≡◌, sym, ◌∙◌}
use mathlib.Core.Bool.{Bool, true, false}
use mathlib.Core.List.{List, ◌++◌, append_assoc}
use native.Mathlib.Nat.{lt_of_not-le}
use native.Mathlib.Decide.{dec_le}
use native.Mathlib.Omega.{arith}
use lib.ListN.{length, take}
use lib.Seq.{take_all}
use Rattle.text.specs.Words.{ascii}
use Rattle.text.specs.Decimal.{decimal}
use Rattle.text.specs.Answers.{answer_line}
use Rattle.refusals.specs.declared.Answer.{Answer}
use Rattle.refusals.specs.Rules.{is_accepted}
use Rattle.bag.specs.declared.Scanned.{Scanned}
use Rattle.ledger.specs.declared.Ledger.{Ledger}
use Rattle.scanning.specs.Lines.{case_lines, ledger_line, lines_of}

pub ledger_as : (l : Ledger) {pool : ℕ} → pool ≡ l.pool.0
    → (ascii "ledger spent " ++ decimal l.nullifiers) ++ ((ascii " leaves " ++ decimal l.tree.leaves) ++ ((ascii " pool " ++ decimal pool) ++ ascii "\n"))
    ≡ ledger_line l
unfolding ledger_line
ledger_as l e = rw e (simp append_assoc)

-- no more than there are
pub take_min : (n k : ℕ) (l : List Answer) → length l ≡ k → take (min n k) l ≡ take n l
take_min n k l h = go (dec_le n k)
  where
    go : Dec (n ≤ k) → take (min n k) l ≡ take n l
    go (yes e) =
        let f : min n k ≡ n = omega arith in
        rw f
    go (no e) =
        let f : k < n = lt_of_not-le e in
        take_all (min n k) l (omega arith) ∙ sym (take_all n l (omega arith))

-- all lines, by what was refused
pub lines_bag : (rows : Bool) (s : Scanned) → is_accepted s.layout ≡ false → answer_line (ascii "bag") s.layout ≡ lines_of rows s
unfolding lines_of
lines_bag rows s h = rw h

pub lines_seal : (rows : Bool) (s : Scanned) → is_accepted s.layout ≡ true → is_accepted s.seal ≡ false
    → answer_line (ascii "seal") s.seal ≡ lines_of rows s
unfolding lines_of
lines_seal rows s h k = rw (h, k)

pub lines_all : (rows : Bool) (s : Scanned) → is_accepted s.layout ≡ true → is_accepted s.seal ≡ true
    → answer_line (ascii "seal") s.seal ++ case_lines rows (take s.cases s.answers) ++ ledger_line s.ledger ≡ lines_of rows s
unfolding lines_of
lines_all rows s h k = rw (h, k)
