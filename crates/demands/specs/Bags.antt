-- A bag as a run of calls: each of its cases is judged, one after the other. So whatever is said of runs of calls is said of bags.
-- Assumes nothing.
use Rattle.std.specs.Prelude.{ℕ, ◌≡◌, false, List, [], ◌∷◌, length}
use Rattle.refusals.specs.declared.Answer.{Answer}
use Rattle.refusals.specs.Rules.{is_accepted}
use Rattle.judge.specs.Judging.{answer_of}
use Rattle.seal.specs.declared.Calibration.{Calibration}
use Rattle.bag.specs.SealAndCases.{judged_cases, seven_answers, scanned_of, table_after_bag}
use Rattle.demands.specs.Histories.{Call, judged, Held, held_after, held_after_all}

-- some cases, each judged
unfoldable pub calls_of : List (List ℕ) → List Call
calls_of [] = []
calls_of (c ∷ cs) = judged c ∷ calls_of cs

-- what they are answered
unfoldable pub answers_to : List (List ℕ) → Held → List Answer
answers_to [] h = []
answers_to (c ∷ cs) h = answer_of c h.table h.roll h.ledger ∷ answers_to cs (held_after (judged c) h)

-- all of them are refusals
unfoldable pub NoneAccepted : List Answer → Type 0
NoneAccepted [] = Unit {0}
NoneAccepted (a ∷ given) = (is_accepted a ≡ false) × NoneAccepted given

-- a bag b, scanned with the calibration k on what is held, gives the answers of its judged cases as calls, and leaves what those calls leave
pub record AsCalls (k : Calibration) (b : List ℕ) (h : Held) : Type 0 where
  pub cases : (scanned_of k b h.table h.roll h.ledger).cases ≡ length (judged_cases k b)
  pub answers : (scanned_of k b h.table h.roll h.ledger).answers ≡ seven_answers (answers_to (judged_cases k b) h)
  pub table : table_after_bag k b h.table h.roll h.ledger ≡ (held_after_all (calls_of (judged_cases k b)) h).table
  pub roll : h.roll ≡ (held_after_all (calls_of (judged_cases k b)) h).roll
  pub ledger : (scanned_of k b h.table h.roll h.ledger).ledger ≡ (held_after_all (calls_of (judged_cases k b)) h).ledger
