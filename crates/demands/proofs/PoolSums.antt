-- THE POOL BY SUMS, after any run of calls on any ledger: what is in it and all that the entered cases took out are together what was in it and all that they
-- put in. A ledger that was not damaged is not damaged by any run of calls, so its pool stays in its bounds.
-- Assumes nothing.
use Prim.Native.Nat.{ℕ, ◌+◌}
use mathlib.Core.Path.{◌≡◌, refl, sym, ap}
use mathlib.Core.Bool.{true, false, cond}
use mathlib.Core.List.{List, [], ◌∷◌, ◌++◌}
use native.Mathlib.Omega.{arith}
use borrow.Author.Tests.{eqb-true}
use Rattle.refusals.specs.Rules.{is_accepted}
use Rattle.refusals.proofs.RuleLaws.{by_test}
use Rattle.ledger.specs.declared.Ledger.{Ledger}
use Rattle.ledger.specs.Ledgers.{damaged}
use Rattle.ledger.proofs.Soundness.{undamaged, sound_undamaged}
use Rattle.ledger.proofs.Endings.{close_passed}
use Rattle.demands.specs.Histories.{Call, judged, closed, Held, held_after, held_after_all, answer_on}
use Rattle.demands.specs.Pools.{answer_to, cases_of, cases_entered, put_by, taken_by, PoolBySums, StaysSound}
use Rattle.demands.proofs.OneCase.{pool_then}
use Rattle.demands.proofs.Calls.{refused_call, SoundIn, sound_call}

-- the sums of two lists of cases, one behind the other
put_append : (cs ds : List (List ℕ)) → put_by (cs ++ ds) ≡ put_by cs + put_by ds
unfolding put_by
put_append [] ds = omega arith
put_append (c ∷ cs) ds = omega (arith, put_append cs ds)

taken_append : (cs ds : List (List ℕ)) → taken_by (cs ++ ds) ≡ taken_by cs + taken_by ds
unfolding taken_by
taken_append [] ds = omega arith
taken_append (c ∷ cs) ds = omega (arith, taken_append cs ds)

-- a call that is accepted moves the pool by its cases
moved_by : (x : Call) (b : Held) → is_accepted (answer_to x b) ≡ true → (held_after x b).ledger.pool.0 + taken_by (cases_of x) ≡ b.ledger.pool.0 + put_by (cases_of x)
unfolding held_after cases_of taken_by put_by
moved_by (judged c) b h = omega (arith, pool_then c b.table b.roll b.ledger (eqb-true (answer_on c b).number 0 h))
moved_by closed b h = ap (λ (l : Ledger). l.pool.0 + 0) (sym (close_passed b.table b.roll b.ledger h).0)

by_none : (pool : ℕ) → pool + taken_by [] ≡ pool + put_by []
unfolding taken_by put_by
by_none pool = refl

-- and any call by those that it enters
one_call : (x : Call) (b : Held)
    → let entered = cond (is_accepted (answer_to x b)) (cases_of x) [] in
    (held_after x b).ledger.pool.0 + taken_by entered ≡ b.ledger.pool.0 + put_by entered
one_call x b =
    by_test (is_accepted (answer_to x b)) (λ h. rw h (moved_by x b h)) (λ h. rw (h, refused_call x b h) (by_none b.ledger.pool.0))

-- THE THEOREM
pub pool_by_sums : (calls : List Call) (b : Held) → PoolBySums calls b
unfolding held_after_all cases_entered taken_by put_by
pool_by_sums [] b = refl
pool_by_sums (x ∷ xs) b =
    let entered = cond (is_accepted (answer_to x b)) (cases_of x) [] in
    let rest = cases_entered xs (held_after x b) in
    omega (arith, taken_append entered rest, put_append entered rest, one_call x b, pool_by_sums xs (held_after x b))

-- FROM A LEDGER THAT IS NOT DAMAGED
sound_all : (calls : List Call) (b : Held) → SoundIn b → SoundIn (held_after_all calls b)
unfolding held_after_all
sound_all [] b s = s
sound_all (x ∷ xs) b s = sound_all xs (held_after x b) (sound_call x b s)

pub stays_sound : (calls : List Call) (b : Held) → damaged b.table b.roll b.ledger ≡ false → StaysSound calls b
stays_sound calls b h =
    let after = held_after_all calls b in
    let s = sound_all calls b (undamaged b.table b.roll b.ledger h) in
    record { undamaged = sound_undamaged after.table after.roll after.ledger s; within = s.pool }
