-- The pool after any run of calls on any ledger, by sums over the cases that were entered.
-- Assumes nothing.
use Rattle.std.specs.Prelude.{ℕ, ◌+◌, ◌≤◌, ◌≡◌, false, cond, List, [], ◌∷◌, ◌++◌}
use Rattle.units.specs.Limits.{max_money}
use Rattle.refusals.specs.declared.Answer.{Answer}
use Rattle.refusals.specs.Rules.{first, is_accepted}
use Rattle.casefile.specs.Fields.{vpub_old_of, vpub_new_of}
use Rattle.ledger.specs.Ledgers.{damaged, close_refusals}
use Rattle.demands.specs.Histories.{Call, judged, closed, Held, held_after, held_after_all, answer_on}

-- what a call is answered, and the cases that it judges
abbrev pub answer_to : Call → Held → Answer
answer_to (judged c) b = answer_on c b
answer_to closed b = first (close_refusals b.table b.roll b.ledger)

unfoldable pub cases_of : Call → List (List ℕ)
cases_of (judged c) = c ∷ []
cases_of closed = []

-- the cases that some calls enter: those of each call that is accepted, in order
unfoldable pub cases_entered : List Call → Held → List (List ℕ)
cases_entered [] b = []
cases_entered (x ∷ xs) b = cond (is_accepted (answer_to x b)) (cases_of x) [] ++ cases_entered xs (held_after x b)

-- all that some cases put into the pool, and all that they take out of it
unfoldable pub put_by : List (List ℕ) → ℕ
put_by [] = 0
put_by (c ∷ cs) = vpub_old_of c + put_by cs

unfoldable pub taken_by : List (List ℕ) → ℕ
taken_by [] = 0
taken_by (c ∷ cs) = vpub_new_of c + taken_by cs

-- THE POOL: what is in it and all that was taken out are together what was in it and all that was put in
abbrev pub PoolBySums : List Call → Held → Type 0
PoolBySums calls b =
    (held_after_all calls b).ledger.pool.0 + taken_by (cases_entered calls b) ≡ b.ledger.pool.0 + put_by (cases_entered calls b)

-- IT STAYS IN ITS BOUNDS, and so no run of calls damages a ledger
pub record StaysSound (calls : List Call) (b : Held) : Type 0 where
  pub undamaged : damaged (held_after_all calls b).table (held_after_all calls b).roll (held_after_all calls b).ledger ≡ false
  pub within : (held_after_all calls b).ledger.pool.0 ≤ max_money
