-- One case on one ledger: document 01's whole table of refusals, read from the top, and what an accepted case leaves. c is the case's bytes, t the
-- nullifier table's, r the anchor roll's, l the ledger's counts, record and pool.
-- Assumes nothing.
use Rattle.std.specs.Prelude.{ℕ, cond, List, [], ◌∷◌}
use Rattle.refusals.specs.declared.Answer.{Answer}
use Rattle.refusals.specs.Rules.{Rule, rules_in, first, is_accepted}
use Rattle.casefile.specs.Fields.{vpub_old_of, vpub_new_of, anchor_of, nullifier_of, commitment_of}
use Rattle.statement.specs.CaseRefusals.{no1, no4, no5, no7, no9, no10, no11, no12, no13, no14, no15, no16}
use Rattle.ledger.specs.declared.Ledger.{Ledger}
use Rattle.ledger.specs.declared.Answered.{Answered}
use Rattle.ledger.specs.Rows.{table_with_two}
use Rattle.ledger.specs.Ledgers.{no2, no3, no6, no8, no17, ledger_refusals, entered_of}

-- THE TABLE OF REFUSALS, in the order of the numbers. i is 1 or 2, the place where one is told
unfoldable pub judge_refusals : List ℕ → List ℕ → List ℕ → Ledger → List Rule
judge_refusals c t r l =
    rules_in
    (no1 c  -- the case is neither 4,210 nor 4,106 bytes long
    ∷ no2 t r l  -- the ledger is damaged
    ∷ no3 t l  -- fewer than two free nullifier rows
    ∷ no4 c  -- both public values are nonzero
    ∷ no5 c  -- a public value is above all money: 1 the old, 2 the new
    ∷ no6 r l (anchor_of c)  -- the anchor is not on the roll
    ∷ no7 c  -- the two nullifiers are equal
    ∷ no8 t l (nullifier_of 1 c) (nullifier_of 2 c)  -- nullifier i is in the table; its row goes with it
    ∷ no9 c  -- key i has a top bit or position i is no leaf; place 3: phi has a top bit
    ∷ no10 c  -- old note i has a value, and its path does not end at the anchor
    ∷ no11 c  -- what goes in is not what comes out, or is above 2 ^ 64 - 1
    ∷ no12 c  -- nullifier i is not that of key i and rho i
    ∷ no13 c  -- a_pk i is not the address of key i
    ∷ no14 c  -- tag i is wrong
    ∷ no15 c  -- new rho i is wrong
    ∷ no16 c  -- commitment i is wrong
    ∷ no17 l.pool.0 (vpub_old_of c) (vpub_new_of c)  -- acceptance would take the pool below zero or above all money
    ∷ [])

-- its first half, which needs no hash
unfoldable pub front_refusals : List ℕ → List ℕ → List ℕ → Ledger → List (List Rule)
front_refusals c t r l =
    no1 c ∷ no2 t r l ∷ no3 t l ∷ no4 c ∷ no5 c ∷ no6 r l (anchor_of c) ∷ no7 c ∷ no8 t l (nullifier_of 1 c) (nullifier_of 2 c) ∷ []

-- what the ledger has to say of the case, and of that its middle
abbrev pub ledgers_own : List ℕ → List ℕ → List ℕ → Ledger → List Rule
ledgers_own c t r l = ledger_refusals t r l (anchor_of c) (nullifier_of 1 c) (nullifier_of 2 c) (vpub_old_of c) (vpub_new_of c)

unfoldable pub middle_refusals : List ℕ → List ℕ → List ℕ → Ledger → List (List Rule)
middle_refusals c t r l = no6 r l (anchor_of c) ∷ no8 t l (nullifier_of 1 c) (nullifier_of 2 c) ∷ []

unfoldable pub answer_of : List ℕ → List ℕ → List ℕ → Ledger → Answer
answer_of c t r l = first (judge_refusals c t r l)

-- what an answer a leaves: an accepted case is entered; a refused one leaves everything as it was
abbrev pub ledger_by : Answer → List ℕ → Ledger → Ledger
ledger_by a c l = cond (is_accepted a) (entered_of l (commitment_of 1 c) (commitment_of 2 c) (vpub_old_of c) (vpub_new_of c)) l

abbrev pub table_by : Answer → List ℕ → List ℕ → Ledger → List ℕ
table_by a c t l = cond (is_accepted a) (table_with_two l.nullifiers t (nullifier_of 1 c) (nullifier_of 2 c)) t

unfoldable pub ledger_after_case : List ℕ → List ℕ → List ℕ → Ledger → Ledger
ledger_after_case c t r l = cond (is_accepted (answer_of c t r l)) (entered_of l (commitment_of 1 c) (commitment_of 2 c) (vpub_old_of c) (vpub_new_of c)) l

unfoldable pub table_after_case : List ℕ → List ℕ → List ℕ → Ledger → List ℕ
table_after_case c t r l = cond (is_accepted (answer_of c t r l)) (table_with_two l.nullifiers t (nullifier_of 1 c) (nullifier_of 2 c)) t

unfoldable pub judged_of : List ℕ → List ℕ → List ℕ → Ledger → Answered
judged_of c t r l = record { answer = answer_of c t r l; ledger = ledger_after_case c t r l }
