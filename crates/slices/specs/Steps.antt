-- REQUEST No. 7: a judgement in 60 steps. Steps 1 to 29 climb old note 1's path, a level each, 30 to 58 old note 2's; 59 asks what else can be asked of the
-- case alone, 60 asks the ledger and changes it. b is the record, c a case, i is 1 or 2; t, r and l are the ledger that is lent to the step.
-- Assumes nothing.
use Rattle.std.specs.Prelude.{ℕ, ◌+◌, ◌-◌, ◌*◌, ◌/◌, ◌^◌, Bool, cond, List, ◌∷◌, eqb, ltb, length, take}
use Rattle.octets.specs.Parts.{field}
use Rattle.octets.specs.Rows.{rows_of}
use Rattle.refusals.specs.declared.Answer.{Answer}
use Rattle.refusals.specs.Rules.{Rule, rules_in, first, for_each, answer}
use Rattle.nodes.specs.CommitmentTree.{parent_of}
use Rattle.nodes.specs.Trees.{climb_of}
use Rattle.tree.specs.Record.{step_of}
use Rattle.casefile.specs.Fields.{has_length, anchor_of, old_value_of, old_position_of, old_path_of}
use Rattle.statement.specs.CaseRefusals.{no4, no5, no7, no9, ends_elsewhere, old_commitment_of, claim_refusals}
use Rattle.ledger.specs.declared.Ledger.{Ledger}
use Rattle.ledgerbytes.specs.LedgerBytes.{ledger_of}
use Rattle.judge.specs.Settling.{settled_answer, ledger_after_settling, table_after_settling}
use Rattle.judge.specs.Kept.{kept_after}
use Rattle.slices.specs.Records.{judgement_length, steps_in, case_in, holds_case, node_in, answer_in, with_steps, with_node, with_answer, with_case, without_case}

-- WHAT A STEP BEFORE THE LAST ANSWERS: "not yet", a number that no refusal has and no pass; its place is how many steps were taken
abbrev pub not_yet : ℕ → Answer
not_yet steps = answer 254 steps

-- THE NODE of level k that old note i's path gives: its commitment is that of level 0, and that of level 29 is where the path ends
unfoldable pub level_of : ℕ → ℕ → List ℕ → List ℕ
level_of k i c = climb_of parent_of (old_commitment_of i c) (old_position_of i c) (take k (rows_of 29 (field 0 928 (old_path_of i c))))

-- the parent of a node of level k on that path: the node's number is the position, halved k times, and its sibling the path's row k
unfoldable pub parent_on : ℕ → ℕ → List ℕ → List ℕ → List ℕ
parent_on k i c node = step_of (old_position_of i c / 2 ^ k) node (field (k * 32) 32 (old_path_of i c))

-- ONE LEVEL CLIMBED, from k to k + 1: from the commitment at level 0, else from the node held
unfoldable pub start_in : ℕ → ℕ → List ℕ → List ℕ
start_in i k b = cond (eqb k 0) (old_commitment_of i (case_in b)) (node_in i b)

unfoldable pub climbed_in : ℕ → ℕ → List ℕ → List ℕ
climbed_in i k b = with_steps (steps_in b + 1) (with_node i (parent_on k i (case_in b) (start_in i k b)) b)

-- THE OTHER CHECKS OF THE CASE ALONE: 4, 5, 7, 9, then 10 by the two path ends held, and 11 to 16
unfoldable pub strays_in : List ℕ → ℕ → Bool
strays_in b i = ends_elsewhere (old_value_of i (case_in b)) (node_in i b) (anchor_of (case_in b))

unfoldable pub held10 : List ℕ → List Rule
held10 b = for_each (strays_in b) 10

unfoldable pub alone_refusals : List ℕ → List (List Rule)
alone_refusals b = no4 (case_in b) ∷ no5 (case_in b) ∷ no7 (case_in b) ∷ no9 (case_in b) ∷ held10 b ∷ claim_refusals (case_in b)

abbrev pub found_in : List ℕ → Answer
found_in b = first (rules_in (alone_refusals b))

unfoldable pub checked_in : List ℕ → List ℕ
checked_in b = with_steps 59 (with_answer (found_in b) b)

-- THE LEDGER ASKED AND CHANGED, by the answer held
abbrev pub settled_by : List ℕ → List ℕ → List ℕ → Ledger → Answer
settled_by b t r l = settled_answer (answer_in b) (case_in b) t r l

unfoldable pub settled_in : List ℕ → List ℕ → List ℕ → Ledger → List ℕ
settled_in b t r l = with_steps 60 (with_answer (settled_by b t r l) b)

-- WHOSE SHARE the next step has: by whether a case is held, and by how many steps were taken; after the last there is nothing to do
unfoldable pub by_share : {A : Type 0} → A → (ℕ → ℕ → A) → A → A → A → List ℕ → A
by_share refused climb check settle done b =
    cond (holds_case b)
    (cond (ltb (steps_in b) 29) (climb 1 (steps_in b))
    (cond (ltb (steps_in b) 58) (climb 2 (steps_in b - 29))
    (cond (eqb (steps_in b) 58) check
    (cond (eqb (steps_in b) 59) settle
    done))))
    refused

-- A STEP: its answer, and what it leaves of the record, of the table, of the ledger, and of the bytes s that a ledger is kept in
unfoldable pub step_answer : List ℕ → List ℕ → List ℕ → Ledger → Answer
step_answer b t r l = by_share (answer 1 0) (λ i k. not_yet (steps_in b + 1)) (not_yet 59) (settled_by b t r l) (answer_in b) b

unfoldable pub record_after_step : List ℕ → List ℕ → List ℕ → Ledger → List ℕ
record_after_step b t r l = by_share b (λ i k. climbed_in i k b) (checked_in b) (settled_in b t r l) b b

unfoldable pub table_after_step : List ℕ → List ℕ → List ℕ → Ledger → List ℕ
table_after_step b t r l = by_share t (λ i k. t) t (table_after_settling (answer_in b) (case_in b) t r l) t b

unfoldable pub ledger_after_step : List ℕ → List ℕ → List ℕ → Ledger → Ledger
ledger_after_step b t r l = by_share l (λ i k. l) l (ledger_after_settling (answer_in b) (case_in b) t r l) l b

unfoldable pub kept_after_step : List ℕ → List ℕ → List ℕ → List ℕ → List ℕ
kept_after_step b t r s =
    by_share s (λ i k. s) s (kept_after (settled_by b t r (ledger_of s)) (ledger_after_settling (answer_in b) (case_in b) t r (ledger_of s)) s) s b

-- THE FIRST STEP takes the whole case in, so that no later one is lent a case. A buffer that is no record is left alone
unfoldable pub begin_answer : List ℕ → List ℕ → Answer
begin_answer c b = cond (eqb (length b) judgement_length) (cond (has_length c) (not_yet 1) (answer 1 0)) (answer 1 0)

unfoldable pub record_after_begin : List ℕ → List ℕ → List ℕ
record_after_begin c b = cond (eqb (length b) judgement_length) (cond (has_length c) (climbed_in 1 0 (with_case c b)) (without_case b)) b
