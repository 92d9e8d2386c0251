-- BAGS ARE RUNS OF CALLS: what scanning a bag answers and leaves is what the calls for its cases answer and leave, case after case. So the history, its
-- counts and all three demands hold of bags. By induction on the cases.
-- Assumes nothing.
use Prim.Native.Nat.{ℕ, suc}
use mathlib.Core.Path.{◌≡◌, refl, ap, ◌∙◌}
use mathlib.Core.List.{List, [], ◌∷◌, ◌++◌, append_assoc, append-nil}
use lib.ListN.{length}
use Rattle.refusals.specs.declared.Answer.{Answer}
use Rattle.judge.specs.Judging.{answer_of}
use Rattle.seal.specs.declared.Calibration.{Calibration}
use Rattle.bag.specs.SealAndCases.{SoFar as Judged, so_far as judged_so_far, with_next, judged_all, judged_cases, all_judged, report, scanned_of, table_after_bag, seven_answers}
use Rattle.demands.specs.Histories.{judged, Held, held_after, held_after_all}
use Rattle.demands.specs.Bags.{calls_of, answers_to, NoneAccepted, AsCalls}
use Rattle.demands.proofs.Calls.{refused_call}

-- as many answers as cases
answers_length : (cs : List (List ℕ)) (h : Held) → length (answers_to cs h) ≡ length cs
unfolding answers_to
answers_length [] h = refl
answers_length (c ∷ cs) h = ap suc (answers_length cs (held_after (judged c) h))

-- judging does not move the roll
roll_stays : (cs : List (List ℕ)) (h : Held) → h.roll ≡ (held_after_all (calls_of cs) h).roll
unfolding calls_of held_after_all held_after
roll_stays [] h = refl
roll_stays (c ∷ cs) h = roll_stays cs (held_after (judged c) h)

-- what the bag's loop has after some cases, and what the calls give and leave
cases_called : (cs : List (List ℕ)) (given : List Answer) (h : Held)
    → judged_all h.roll (judged_so_far given h.table h.ledger) cs
    ≡ judged_so_far (given ++ answers_to cs h) (held_after_all (calls_of cs) h).table (held_after_all (calls_of cs) h).ledger
unfolding judged_all with_next calls_of answers_to held_after_all held_after
cases_called [] given h = rw (append-nil given)
cases_called (c ∷ cs) given h =
    let a = answer_of c h.table h.roll h.ledger in
    cases_called cs (given ++ (a ∷ [])) (held_after (judged c) h)
    ∙ ap (λ (x : List Answer). judged_so_far x (held_after_all (calls_of cs) (held_after (judged c) h)).table (held_after_all (calls_of cs) (held_after (judged c) h)).ledger) (append_assoc given (a ∷ []) (answers_to cs (held_after (judged c) h)))

-- THE THEOREM, for any bag, any calibration and whatever is held
pub bag_is_calls : (k : Calibration) (b : List ℕ) (h : Held) → AsCalls k b h
unfolding scanned_of table_after_bag all_judged report
bag_is_calls k b h =
    let cs = judged_cases k b in
    let e = cases_called cs [] h in
    record {
      cases = ap (λ (x : Judged). length x.answers) e ∙ answers_length cs h;
      answers = ap (λ (x : Judged). seven_answers x.answers) e;
      table = ap (λ (x : Judged). x.table) e;
      roll = roll_stays cs h;
      ledger = ap (λ (x : Judged). x.ledger) e;
    }

-- CASES OF WHICH NONE IS ACCEPTED leave all that is held
pub none_accepted : (cs : List (List ℕ)) (h : Held) → NoneAccepted (answers_to cs h) → held_after_all (calls_of cs) h ≡ h
unfolding NoneAccepted answers_to calls_of held_after_all
none_accepted [] h n = refl
none_accepted (c ∷ cs) h n = none_accepted cs (held_after (judged c) h) n.1 ∙ refused_call (judged c) h n.0
