-- What scanning a bag gives. b is the bag's bytes, k the scanner's calibration, t the nullifier table's bytes, r the anchor roll's, l the ledger's
-- counts, record and pool.
-- Assumes nothing.
use Rattle.std.specs.Prelude.{ℕ, ◌-◌, cond, ◌&&◌, List, [], ◌∷◌, ◌++◌, length, replicate, Result, Ok, Err}
use Rattle.refusals.specs.declared.Answer.{Answer}
use Rattle.refusals.specs.Rules.{accepted, not_given, is_accepted}
use Rattle.seal.specs.declared.Calibration.{Calibration}
use Rattle.seal.specs.declared.Reading.{Reading}
use Rattle.seal.specs.declared.SealRefusal.{SealRefusal}
use Rattle.seal.specs.declared.SealRefusal.TheVariants.{Broken}
use Rattle.seal.specs.Body.{read_of}
use Rattle.seal.specs.Pull.{judge_of, answer_for, seal_answer}
use Rattle.ledger.specs.declared.Ledger.{Ledger}
use Rattle.judge.specs.Judging.{answer_of, ledger_after_case, table_after_case}
use Rattle.bag.specs.declared.Scanned.{Scanned}
use Rattle.bag.specs.Contents.{laid_out, body_of, cases_of}

-- THE SEAL. What the bag says of it; any breach, of the layout or of the seal's own body, is Broken
unfoldable pub seal_in : List ℕ → Result Reading SealRefusal
seal_in b = cond (laid_out b) (read_of (body_of 0 b)) (Err Broken)

-- the layout's answer
abbrev pub layout_answer : Result Reading SealRefusal → Answer
layout_answer (Ok reading) = accepted
layout_answer (Err refusal) = answer_for refusal

-- the seal's answer; a broken bag has no seal to judge
abbrev pub gate_answer : Calibration → Result Reading SealRefusal → Answer
gate_answer k (Ok reading) = seal_answer (judge_of k reading.gate reading.raw)
gate_answer k (Err refusal) = not_given

-- THE CASES that are judged: all, and none where the layout or the seal refuses
unfoldable pub judged_cases : Calibration → List ℕ → List (List ℕ)
judged_cases k b = cond (is_accepted (layout_answer (seal_in b)) && is_accepted (gate_answer k (seal_in b))) (cases_of b) []

-- the answers given so far, and the table and the ledger that they left
pub record SoFar : Type 0 where
  pub answers : List Answer
  pub table : List ℕ
  pub ledger : Ledger

abbrev pub so_far : List Answer → List ℕ → Ledger → SoFar
so_far given t l = record { answers = given; table = t; ledger = l }

-- one case more
unfoldable pub with_next : List ℕ → SoFar → List ℕ → SoFar
with_next r h c =
    so_far (h.answers ++ (answer_of c h.table r h.ledger ∷ [])) (table_after_case c h.table r h.ledger) (ledger_after_case c h.table r h.ledger)

-- one case after the other, whatever the one before was answered
unfoldable pub judged_all : List ℕ → SoFar → List (List ℕ) → SoFar
judged_all r h [] = h
judged_all r h (c ∷ cs) = judged_all r (with_next r h c) cs

abbrev pub judged_from : List ℕ → List ℕ → Ledger → List (List ℕ) → SoFar
judged_from t r l cs = judged_all r (so_far [] t l) cs

unfoldable pub all_judged : Calibration → List ℕ → List ℕ → List ℕ → Ledger → SoFar
all_judged k b t r l = judged_from t r l (judged_cases k b)

-- THE RESULT. There is room for seven answers: those that were given, and not_given for the rest
unfoldable pub seven_answers : List Answer → List Answer
seven_answers given = given ++ replicate (7 - length given) not_given

unfoldable pub report : Answer → Answer → List Answer → Ledger → Scanned
report layout seal given l = record { layout = layout; seal = seal; cases = length given; answers = seven_answers given; ledger = l }

unfoldable pub scanned_of : Calibration → List ℕ → List ℕ → List ℕ → Ledger → Scanned
scanned_of k b t r l = report (layout_answer (seal_in b)) (gate_answer k (seal_in b)) (all_judged k b t r l).answers (all_judged k b t r l).ledger

-- and the table after it
unfoldable pub table_after_bag : Calibration → List ℕ → List ℕ → List ℕ → Ledger → List ℕ
table_after_bag k b t r l = (all_judged k b t r l).table
