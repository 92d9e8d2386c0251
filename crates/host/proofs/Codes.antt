-- AN ANSWER AS ONE NUMBER loses nothing. Number, place and row can be read from it, so that two answers with one code are the same answer; and the answer of
-- each C function, and each in a report, has room in it: the row of a spent nullifier is below 65,536. The day list takes what a case was answered, and keeps
-- number and place. By the first demand's list of refusals, and over a bag's cases by induction.
-- Assumes nothing.
use Prim.Native.Nat.{ℕ, zero, suc, ◌-◌, ◌/◌, ◌%◌, ◌^◌, ◌<◌}
use mathlib.Core.Path.{◌≡◌, refl, sym, ap, ◌∙◌}
use mathlib.Core.Bool.{Bool, true, cond, ◌&&◌}
use mathlib.Core.Logic.{inl, inr}
use mathlib.Core.List.{List, [], ◌∷◌, ◌++◌}
use native.Mathlib.Omega.{arith}
use borrow.Author.Tests.{ltb-true, lt-ltb, eqb-true, eqb-false, eq-eqb, ne_eqb}
use lib.Dec.{eqb, leb, ltb}
use lib.ListN.{length, replicate}
use Rattle.octets.proofs.BoolLaws.{and_both}
use Rattle.refusals.specs.declared.Answer.{Answer}
use Rattle.refusals.specs.Rules.{answer_in_row, answer, not_given, is_accepted, first, rules_in}
use Rattle.refusals.specs.Sentences.{Sentence, FirstHolds, AnswersBy, places_of}
use Rattle.refusals.proofs.RuleLaws.{by_test}
use Rattle.ledger.specs.declared.Ledger.{Ledger}
use Rattle.ledger.specs.Ledgers.{most_anchors, room_in, damaged, no2, close_refusals, open_refusals}
use Rattle.ledgerbytes.specs.LedgerBytes.{is_whole, ledger_of}
use Rattle.judge.specs.Judging.{answer_of}
use Rattle.judge.proofs.SpentRow.{other_rows, row_within}
use Rattle.demands.specs.Refusals.{case_sentences, all_places}
use Rattle.demands.proofs.Demand1.{case_answered, one_place}
use Rattle.seal.specs.declared.Calibration.{Calibration}
use Rattle.seal.specs.declared.Reading.{Reading}
use Rattle.std.specs.Prelude.{Float, Result, Ok, Err}
use Rattle.seal.specs.declared.SealRefusal.{SealRefusal}
use Rattle.seal.specs.declared.SealRefusal.TheVariants.{Broken, BadLimit, NotFinite, Outside}
use Rattle.seal.specs.Body.{read_of}
use Rattle.seal.specs.Pull.{judge_of, seal_answer, answer_for}
use Rattle.bag.specs.SealAndCases.{SoFar, with_next, judged_all, all_judged, seal_in, layout_answer, gate_answer, judged_cases, seven_answers, report, scanned_of}
use Rattle.books.specs.DayList.{with_day_row}
use Rattle.host.specs.Answers.{code_of, is_long}
use Rattle.host.specs.Ledgers.{open_answer, judge_answer, close_answer, root_answer, hash_answer}
use Rattle.host.specs.Bags.{read_answer, body_answer, scan_of, bag_answer}
use Rattle.host.specs.Books.{counted_in, tally_answer, is_on_list, is_answer, day_answer, day_after, day_list}
use Rattle.host.proofs.DayLaws.{day_entered}

-- number and place in 8 bits each, the row in 16
pub record FitsCode (a : Answer) : Type 0 where
  pub number : a.number < 256
  pub place : a.place < 256
  pub row : a.row.0 < 65536

-- NOTHING IS CUT
pub number_back : (a : Answer) → FitsCode a → code_of a % 256 ≡ a.number
number_back a f = omega (arith, f.number, f.place, f.row)

pub place_back : (a : Answer) → FitsCode a → code_of a / 256 % 256 ≡ a.place
place_back a f = omega (arith, f.number, f.place, f.row)

pub row_back : (a : Answer) → FitsCode a → code_of a / 65536 ≡ a.row.0
row_back a f = omega (arith, f.number, f.place, f.row)

parts : {n n' p p' k k' : ℕ} → n ≡ n' → p ≡ p' → k ≡ k' → answer_in_row n p k ≡ answer_in_row n' p' k'
parts x y z = rw (x, y, z)

-- ONE CODE, ONE ANSWER
pub codes_apart : (a b : Answer) → FitsCode a → FitsCode b → code_of a ≡ code_of b → a ≡ b
codes_apart a b f g e =
    parts
    (sym (number_back a f) ∙ ap (λ (x : ℕ). x % 256) e ∙ number_back b g)
    (sym (place_back a f) ∙ ap (λ (x : ℕ). x / 256 % 256) e ∙ place_back b g)
    (sym (row_back a f) ∙ ap (λ (x : ℕ). x / 65536) e ∙ row_back b g)

-- WHAT THE CALLS ANSWER FITS. Most answers have row 0
pub rowless : (n p : ℕ) → n < 256 → p < 256 → FitsCode (answer n p)
rowless n p h k = record { number = h; place = k; row = omega arith }

one_of : (b : Bool) (x y : Answer) → FitsCode x → FitsCode y → FitsCode (cond b x y)
one_of b x y f g = by_test b (λ e. rw e f) (λ e. rw e g)

pass : FitsCode (answer 0 0)
pass = rowless 0 0 (omega arith) (omega arith)

misfit : (p : ℕ) → p < 256 → FitsCode (answer 51 p)
misfit p h = rowless 51 p (omega arith) h

pub open_fits : (s r : List ℕ) → FitsCode (open_answer s r)
unfolding open_answer open_refusals first
open_fits s r = one_of (is_whole s) _ _ (one_of (eqb (room_in most_anchors (length r)) 0) _ _ (rowless 1 0 (omega arith) (omega arith)) pass) (misfit 1 (omega arith))

pub close_fits : (s t r : List ℕ) → FitsCode (close_answer s t r)
unfolding close_answer close_refusals rules_in no2 first
close_fits s t r =
    let l = ledger_of s in
    one_of (is_whole s) _ _
    (one_of (damaged t r l) _ _ (rowless 2 0 (omega arith) (omega arith)) (one_of (leb (room_in most_anchors (length r)) l.anchors) _ _ (rowless 3 0 (omega arith) (omega arith)) pass))
    (misfit 1 (omega arith))

pub root_fits : (s o : List ℕ) → FitsCode (root_answer s o)
unfolding root_answer
root_fits s o = one_of (is_whole s) _ _ (one_of (is_long 32 o) _ _ pass (misfit 2 (omega arith))) (misfit 1 (omega arith))

pub hash_fits : (o : List ℕ) → FitsCode (hash_answer o)
unfolding hash_answer
hash_fits o = one_of (is_long 32 o) _ _ pass (misfit 6 (omega arith))

pub tally_fits : (b : List ℕ) (a : ℕ) → FitsCode (tally_answer b a)
unfolding tally_answer
tally_fits b a = one_of (is_long 12 b) _ _ (one_of (counted_in b a).ok _ _ pass (rowless 52 0 (omega arith) (omega arith))) (misfit 4 (omega arith))

pub day_fits : (i a : ℕ) (b : List ℕ) → FitsCode (day_answer i a b)
unfolding day_answer
day_fits i a b = one_of (is_on_list i b) _ _ (one_of (is_answer a) _ _ pass (rowless 54 0 (omega arith) (omega arith))) (rowless 53 0 (omega arith) (omega arith))

-- a seal, and a bag's own answer
refusal_fits : (x : SealRefusal) → FitsCode (answer_for x)
refusal_fits Broken = rowless 20 0 (omega arith) (omega arith)
refusal_fits BadLimit = rowless 21 0 (omega arith) (omega arith)
refusal_fits NotFinite = rowless 22 0 (omega arith) (omega arith)
refusal_fits Outside = rowless 23 0 (omega arith) (omega arith)

sealed_fits : (x : Result Float SealRefusal) → FitsCode (seal_answer x)
sealed_fits (Ok p) = pass
sealed_fits (Err refusal) = refusal_fits refusal

read_fits : (k : Calibration) (x : Result Reading SealRefusal) → FitsCode (read_answer k x)
read_fits k (Ok reading) = sealed_fits (judge_of k reading.gate reading.raw)
read_fits k (Err refusal) = refusal_fits refusal

pub seal_fits : (k : Calibration) (b o : List ℕ) → FitsCode (body_answer k b o)
unfolding body_answer
seal_fits k b o = one_of (is_long 8 o) _ _ (read_fits k (read_of b)) (misfit 5 (omega arith))

layout_fits : (x : Result Reading SealRefusal) → FitsCode (layout_answer x)
layout_fits (Ok reading) = pass
layout_fits (Err refusal) = refusal_fits refusal

gate_fits : (k : Calibration) (x : Result Reading SealRefusal) → FitsCode (gate_answer k x)
gate_fits k (Ok reading) = sealed_fits (judge_of k reading.gate reading.raw)
gate_fits k (Err refusal) = rowless 255 0 (omega arith) (omega arith)

pub bag_fits : (k : Calibration) (b s t r o : List ℕ) → FitsCode (bag_answer k b s t r o)
unfolding bag_answer scanned_of report
bag_fits k b s t r o =
    one_of (is_whole s) _ _
    (one_of (is_long 32 o) _ _ (one_of (is_accepted (layout_answer (seal_in b))) _ _ (gate_fits k (seal_in b)) (layout_fits (seal_in b))) (misfit 3 (omega arith)))
    (misfit 1 (omega arith))

-- A CASE: none of its numbers and places, which the first demand lists, is above 255
unfoldable pub low : List Answer → Bool
low [] = true
low (a ∷ rest) = (ltb a.number 256 && ltb a.place 256) && low rest

held_low : (ss : List Sentence) (n p : ℕ) → low (places_of ss) ≡ true → FirstHolds ss n p → (n < 256) × (p < 256)
unfolding low places_of FirstHolds
held_low [] n p h f = absurd f
held_low (s ∷ ss) n p h (inl x) =
    let q = and_both (ltb s.number 256) (ltb s.place 256) (and_both (ltb s.number 256 && ltb s.place 256) (low (places_of ss)) h).0 in
    (rw (← x.1.0) (ltb-true s.number 256 q.0), rw (← x.1.1) (ltb-true s.place 256 q.1))
held_low (s ∷ ss) n p h (inr x) = held_low ss n p (and_both (ltb s.number 256 && ltb s.place 256) (low (places_of ss)) h).1 x.1

pub answered_low : (ss : List Sentence) (a : Answer) → low (places_of ss) ≡ true → AnswersBy ss a → (a.number < 256) × (a.place < 256)
answered_low ss a h b =
    by_test (is_accepted a)
    (λ e. let z = b.passed (b.passed_only (eqb-true a.number 0 e)) in rw z (omega arith, omega arith))
    (λ e. held_low ss a.number a.place h (b.refused_only a.number a.place (eqb-false a.number 0 e) refl))

places_low : low all_places ≡ true
unfolding low all_places
places_low = refl

case_low : (c t r : List ℕ) (l : Ledger) → ((answer_of c t r l).number < 256) × ((answer_of c t r l).place < 256)
case_low c t r l = answered_low (case_sentences c t r l) (answer_of c t r l) (ap low (one_place c t r l) ∙ places_low) (case_answered c t r l)

case_fits : (c t r : List ℕ) (l : Ledger) → FitsCode (answer_of c t r l)
case_fits c t r l =
    let h = case_low c t r l in
    record { number = h.0; place = h.1; row = omega (arith, row_within c t r l) }

pub judge_fits : (c s t r : List ℕ) → FitsCode (judge_answer c s t r)
unfolding judge_answer
judge_fits c s t r = one_of (is_whole s) _ _ (case_fits c t r (ledger_of s)) (misfit 1 (omega arith))

-- A REPORT: each of a bag's cases, and what stands for those that it does not have
unfoldable pub EachFits : List Answer → Type 0
EachFits [] = Unit {0}
EachFits (a ∷ rest) = FitsCode a × EachFits rest

each_append : (xs ys : List Answer) → EachFits xs → EachFits ys → EachFits (xs ++ ys)
unfolding EachFits
each_append [] ys f g = g
each_append (x ∷ xs) ys f g = (f.0, each_append xs ys f.1 g)

none_given : (n : ℕ) → EachFits (replicate n not_given)
unfolding EachFits
none_given zero = tt
none_given (suc n) = (rowless 255 0 (omega arith) (omega arith), none_given n)

all_fit : (r : List ℕ) (h : SoFar) (cs : List (List ℕ)) → EachFits h.answers → EachFits (judged_all r h cs).answers
unfolding judged_all with_next EachFits
all_fit r h [] f = f
all_fit r h (c ∷ cs) f = all_fit r (with_next r h c) cs (each_append h.answers _ f (case_fits c h.table r h.ledger, tt))

pub report_fits : (k : Calibration) (b s t r : List ℕ) → EachFits (scan_of k b s t r).answers
unfolding scanned_of report seven_answers all_judged EachFits
report_fits k b s t r =
    let given = (all_judged k b t r (ledger_of s)).answers in
    each_append given _ (all_fit r _ (judged_cases k b) tt) (none_given (7 - length given))

-- THE DAY LIST TAKES what a case was answered, as it was returned: only the number 8 has a row, and a pass is 0 alone
taken : (a : Answer) → FitsCode a → ((a.number ≡ 8 → ⊥) → a.row.0 ≡ 0) → (a.number ≡ 0 → a.place ≡ 0) → is_answer (code_of a) ≡ true
unfolding is_answer
taken a f rows places =
    by_test (eqb a.number 8)
    (λ e. let h : code_of a % 256 ≡ 8 = number_back a f ∙ eqb-true a.number 8 e in
    let n = ne_eqb (code_of a % 256) 0 (λ z. omega (arith, z, h)) in
    by_test (ltb (code_of a) 65536) (λ b. rw (b, n)) (λ b. rw (b, n, eq-eqb (code_of a % 256) 8 h)))
    (λ e. let low = lt-ltb (code_of a) 65536 (omega (arith, f.number, f.place, rows (eqb-false a.number 8 e))) in
    by_test (eqb a.number 0)
    (λ z. let n = eqb-true a.number 0 z in
    let p = places n in
    let k = rows (eqb-false a.number 8 e) in
    rw (low, eq-eqb (code_of a % 256) 0 (omega (arith, n, p, k)), eq-eqb (code_of a) 0 (omega (arith, n, p, k))))
    (λ z. rw (low, ne_eqb (code_of a % 256) 0 (λ w. eqb-false a.number 0 z (sym (number_back a f) ∙ w)))))

case_taken : (c t r : List ℕ) (l : Ledger) → is_answer (code_of (answer_of c t r l)) ≡ true
case_taken c t r l =
    let by = case_answered c t r l in
    taken (answer_of c t r l) (case_fits c t r l) (other_rows c t r l) (λ h. ap (λ (a : Answer). a.place) (by.passed (by.passed_only h)))

pub judge_taken : (c s t r : List ℕ) → is_answer (code_of (judge_answer c s t r)) ≡ true
unfolding judge_answer is_answer
judge_taken c s t r = by_test (is_whole s) (λ w. rw w (case_taken c t r (ledger_of s))) (λ w. rw w)

-- and keeps of it number and place
pub answer_entered : (i seal : ℕ) (a : Answer) (b : List ℕ) → seal < 2 ^ 32 → FitsCode a → is_answer (code_of a) ≡ true
    → day_list (day_after i seal (code_of a) b) ≡ with_day_row i (record { seal = seal; answer = a.number; place = a.place }) (day_list b)
answer_entered i seal a b h f k = day_entered i seal (code_of a) b h k ∙ rw (number_back a f, place_back a f)
