-- REQUEST No. 7, judging in short slices: which records the steps make and what these hold, what a step does to any record, and calls on a ledger with
-- steps between them. c is a case, b a record, k how many steps were taken, h what is held of the ledger that a step is lent.
-- Assumes nothing.
use Rattle.std.specs.Prelude.{ℕ, suc, ◌+◌, ◌-◌, ◌≤◌, min, ◌≡◌, true, false, cond, List, [], ◌∷◌, ◌++◌, eqb, length, take}
use Rattle.refusals.specs.declared.Answer.{Answer}
use Rattle.refusals.specs.Rules.{rules_in, first}
use Rattle.casefile.specs.Layout.{offset, proof_length, of_old}
use Rattle.casefile.specs.Fields.{has_length}
use Rattle.statement.specs.CaseRefusals.{no4, no5, no7, witness_refusals}
use Rattle.slices.specs.Records.{judgement_length, case_at, steps_in, case_in, holds_case, node_in, answer_in}
use Rattle.slices.specs.Steps.{level_of, parent_on, step_answer, record_after_step, table_after_step, ledger_after_step, record_after_begin}
use Rattle.demands.specs.Histories.{Call, judged, Held, held_after}

-- A STEP of the record b on what is held: its answer, the record after it, and what is held then
abbrev pub step_on : List ℕ → Held → Answer
step_on b h = step_answer b h.table h.roll h.ledger

abbrev pub record_on : List ℕ → Held → List ℕ
record_on b h = record_after_step b h.table h.roll h.ledger

abbrev pub held_after_step : List ℕ → Held → Held
held_after_step b h = record { table = table_after_step b h.table h.roll h.ledger; roll = h.roll; ledger = ledger_after_step b h.table h.roll h.ledger }

-- A RECORD THAT THE STEPS MADE of the case c, so many of them, whatever was in its bytes before and whatever ledger each step was lent
pub data MadeOf (c : List ℕ) : ℕ → List ℕ → Type 0 where
  begun : (b : List ℕ) → length b ≡ judgement_length → MadeOf c 1 (record_after_begin c b)
  stepped : {k : ℕ} {b : List ℕ} → MadeOf c k b → (h : Held) → MadeOf c (suc k) (record_on b h)

-- WHAT IT HOLDS after k steps: the case; how many steps were taken; the node of each path that its definition gives at the level reached; and after 59 the
-- number and place of the first of 4, 5, 7 and 9 to 16 that applies, or 0 and 0
pub record HoldsAfter (c : List ℕ) (k : ℕ) (b : List ℕ) : Type 0 where
  pub case : case_in b ≡ c
  pub steps : steps_in b ≡ k
  pub first_path : node_in 1 b ≡ level_of (min k 29) 1 c
  pub second_path : 30 ≤ k → node_in 2 b ≡ level_of (min (k - 29) 29) 2 c
  pub found : k ≡ 59 → answer_in b ≡ first (rules_in (no4 c ∷ no5 c ∷ no7 c ∷ witness_refusals c))

-- NO STEP DOES ANOTHER'S SHARE. A climbing step gives the parent of the node held, on old note i's path at level k, and leaves all else but the count; j is
-- the other path
pub record ClimbsOnly (i j k : ℕ) (b b' : List ℕ) : Type 0 where
  pub node : node_in i b' ≡ parent_on k i (case_in b) (node_in i b)
  pub other : node_in j b' ≡ node_in j b
  pub case : case_in b' ≡ case_in b
  pub answer : answer_in b' ≡ answer_in b
  pub steps : steps_in b' ≡ steps_in b + 1

-- two records that differ in the witness alone: they are as long, and the same up to where the first old note begins in the case
pub record WitnessAlone (b b' : List ℕ) : Type 0 where
  pub long : length b ≡ length b'
  pub before : take (case_at + offset (proof_length (case_in b)) (of_old 1 0)) b ≡ take (case_at + offset (proof_length (case_in b)) (of_old 1 0)) b'

-- a step that changes nothing
pub record ChangesNothing (b : List ℕ) (h : Held) : Type 0 where
  pub same_record : record_on b h ≡ b
  pub same_held : held_after_step b h ≡ h

-- CALLS WITH STEPS BETWEEN THEM: a handset keeps records, each under a number. It makes a whole call, begins a judgement in a record, or takes a record's
-- next step
pub data Event : Type 0 where
  whole : Call → Event
  begins : ℕ → List ℕ → Event
  steps : ℕ → Event

-- what it has: the ledger that is held, and the records
pub record Handset : Type 0 where
  pub held : Held
  pub records : ℕ → List ℕ

-- the thing x put under the number j
unfoldable pub put : {A : Type 0} → ℕ → A → (ℕ → A) → ℕ → A
put j x f i = cond (eqb i j) x (f i)

unfoldable pub handset_after : Event → Handset → Handset
handset_after (whole x) w = record { held = held_after x w.held; records = w.records }
handset_after (begins j c) w = record { held = w.held; records = put j (record_after_begin c (w.records j)) w.records }
handset_after (steps j) w = record { held = held_after_step (w.records j) w.held; records = put j (record_on (w.records j) w.held) w.records }

unfoldable pub handset_after_all : List Event → Handset → Handset
handset_after_all [] w = w
handset_after_all (e ∷ es) w = handset_after_all es (handset_after e w)

-- how far each judgement is, with no look at a record: nothing to judge, or so many steps of a case
pub data Progress : Type 0 where
  nothing : Progress
  taken : List ℕ → ℕ → Progress

abbrev pub further : Progress → Progress
further nothing = nothing
further (taken c k) = taken c (suc k)

unfoldable pub progress_after : Event → (ℕ → Progress) → ℕ → Progress
progress_after (whole x) p = p
progress_after (begins j c) p = put j (cond (has_length c) (taken c 1) nothing) p
progress_after (steps j) p = put j (further (p j)) p

unfoldable pub progress_after_all : List Event → (ℕ → Progress) → ℕ → Progress
progress_after_all [] p = p
progress_after_all (e ∷ es) p = progress_after_all es (progress_after e p)

-- the calls on a ledger that events are: step 60 of a case is its judgement, and no other step is a call
abbrev pub sixtieth : Progress → List Call
sixtieth nothing = []
sixtieth (taken c k) = cond (eqb k 59) (judged c ∷ []) []

unfoldable pub calls_made : Event → (ℕ → Progress) → List Call
calls_made (whole x) p = x ∷ []
calls_made (begins j c) p = []
calls_made (steps j) p = sixtieth (p j)

unfoldable pub all_calls_made : List Event → (ℕ → Progress) → List Call
all_calls_made [] p = []
all_calls_made (e ∷ es) p = calls_made e p ++ all_calls_made es (progress_after e p)

-- a record is as far as is said: the steps made it, or it holds no case
unfoldable pub Follows : Progress → List ℕ → Type 0
Follows nothing b = (length b ≡ judgement_length) × (holds_case b ≡ false)
Follows (taken c k) b = (has_length c ≡ true) × MadeOf c k b
