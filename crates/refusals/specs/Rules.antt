-- A table of refusals is a list of rules, read from the top. Each rule is a test with the number, the place and the row of the nullifier table that it gives.
-- Assumes nothing.
use Rattle.std.specs.Prelude.{ℕ, ◌≡◌, Bool, true, false, cond, not, ◌&&◌, List, [], ◌∷◌, ◌++◌, eqb, leb}
use Rattle.units.specs.RowNumbers.{row_numbered}
use Rattle.refusals.specs.declared.Answer.{Answer}

pub record Rule : Type 0 where
  pub applies : Bool
  pub number : ℕ
  pub place : ℕ
  pub row : ℕ

-- a rule that gives row k, and one that gives none, which is row 0
abbrev pub rule_in_row : Bool → ℕ → ℕ → ℕ → Rule
rule_in_row b n p k = record { applies = b; number = n; place = p; row = k }

abbrev pub rule : Bool → ℕ → ℕ → Rule
rule b n p = rule_in_row b n p 0

abbrev pub answer_in_row : ℕ → ℕ → ℕ → Answer
answer_in_row n p k = record { number = n; place = p; row = row_numbered k }

abbrev pub answer : ℕ → ℕ → Answer
answer n p = answer_in_row n p 0

abbrev pub accepted : Answer
accepted = answer 0 0

-- what stands for an answer that was not given: a number that no refusal has, so that it can be taken neither for a refusal's nor for a pass
abbrev pub not_given : Answer
not_given = answer 255 0

abbrev pub is_accepted : Answer → Bool
is_accepted a = eqb a.number 0

-- number and place alone
abbrev pub without_row : Answer → Answer
without_row a = answer a.number a.place

-- the first rule that applies, and acceptance where none does
unfoldable pub first : List Rule → Answer
first [] = accepted
first (r ∷ rs) = cond r.applies (answer_in_row r.number r.place r.row) (first rs)

-- the rules of several refusals, one refusal after the other
unfoldable pub rules_in : List (List Rule) → List Rule
rules_in [] = []
rules_in (g ∷ gs) = g ++ rules_in gs

-- a refusal that can be given of the first or of the second of a pair: the first goes first
abbrev pub for_each : (ℕ → Bool) → ℕ → List Rule
for_each test n = rule (test 1) n 1 ∷ rule (test 2) n 2 ∷ []

-- no rule applies
unfoldable pub None : List Rule → Type 0
None [] = Unit {0}
None (r ∷ rs) = (r.applies ≡ false) × None rs

-- no rule has the number 0, which stands for acceptance
unfoldable pub numbered : List Rule → Bool
numbered [] = true
numbered (r ∷ rs) = not (eqb r.number 0) && numbered rs

-- the answer with the lower number; an acceptance gives way
abbrev pub lower : Answer → Answer → Answer
lower a b = cond (is_accepted b) a (cond (is_accepted a) b (cond (leb a.number b.number) a b))

-- an answer refuses, with a number up to n
abbrev pub refuses_up_to : ℕ → Answer → Bool
refuses_up_to n a = not (is_accepted a) && leb a.number n
