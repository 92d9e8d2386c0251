-- The record of a judgement in steps: 4,280 bytes, which a handset keeps from step to step. b is these bytes, whatever they are; c is a case; i is 1 or 2.
-- Assumes nothing.
use Rattle.std.specs.Prelude.{ℕ, ◌+◌, ◌-◌, ◌*◌, Bool, cond, List, [], ◌∷◌, eqb, leb, length, get_or}
use Rattle.octets.specs.Parts.{field, pasted}
use Rattle.octets.specs.Numbers.{little, little_bytes}
use Rattle.refusals.specs.declared.Answer.{Answer}
use Rattle.refusals.specs.Rules.{answer_in_row, answer}
use Rattle.casefile.specs.Layout.{case_length, first_proof, second_proof}
use Rattle.casefile.specs.Fields.{has_length}

abbrev pub judgement_length : ℕ
judgement_length = 4280

-- where things lie: the steps (1 byte), the edition (1), the answer (4), a node of each path (32 and 32), the case
abbrev pub answer_at : ℕ
answer_at = 2

abbrev pub node_at : ℕ → ℕ
node_at i = 6 + 32 * (i - 1)

abbrev pub case_at : ℕ
case_at = 70

-- READING: how many steps were taken
unfoldable pub steps_in : List ℕ → ℕ
steps_in b = get_or b 0 0

-- THE CASE, as long as its edition is, 1 or 2. Any other edition stands for no case, and so does a buffer that is no record
unfoldable pub held_length : ℕ → ℕ
held_length edition = cond (eqb edition 1) (case_length first_proof) (cond (eqb edition 2) (case_length second_proof) 0)

unfoldable pub case_in : List ℕ → List ℕ
case_in b = cond (eqb (length b) judgement_length) (field case_at (held_length (get_or b 1 0)) b) []

-- a record without a case is refused
unfoldable pub holds_case : List ℕ → Bool
holds_case b = has_length (case_in b)

-- the node that old note i's path was climbed to
unfoldable pub node_in : ℕ → List ℕ → List ℕ
node_in i b = field (node_at i) 32 b

-- the answer that was found: number, place, and the row in two bytes. No case is answered with a number above 17, and what has one reads as 1
unfoldable pub answer_in : List ℕ → Answer
answer_in b = cond (leb (get_or b answer_at 0) 17) (answer_in_row (get_or b answer_at 0) (get_or b (answer_at + 1) 0) (little (field (answer_at + 2) 2 b))) (answer 1 0)

-- WRITING
unfoldable pub with_steps : ℕ → List ℕ → List ℕ
with_steps n b = pasted 0 (n ∷ []) b

unfoldable pub with_node : ℕ → List ℕ → List ℕ → List ℕ
with_node i node b = pasted (node_at i) node b

unfoldable pub with_answer : Answer → List ℕ → List ℕ
with_answer a b = pasted answer_at (a.number ∷ a.place ∷ little_bytes 2 a.row.0) b

-- a case of a case's length taken in, before its first step; and a record without one, which is refused with 1 at that step
unfoldable pub edition_of : List ℕ → ℕ
edition_of c = cond (eqb (length c) (case_length first_proof)) 1 2

unfoldable pub with_case : List ℕ → List ℕ → List ℕ
with_case c b = pasted case_at c (pasted 0 (0 ∷ edition_of c ∷ 0 ∷ 0 ∷ 0 ∷ 0 ∷ []) b)

unfoldable pub without_case : List ℕ → List ℕ
without_case b = pasted 0 (1 ∷ 0 ∷ 1 ∷ 0 ∷ 0 ∷ 0 ∷ []) b
