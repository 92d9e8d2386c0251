-- THE FIRST DEMAND of a bag and of its seal: 20 exactly where the bag is not well laid out, 21 to 23 exactly where their sentence is the first that holds, and
-- after a refusal the table and the ledger are as they were. The rows are gone through by induction on their number.
-- Assumes nothing.
use Prim.Native.Nat.{ℕ, zero, suc, ◌+◌, ◌-◌, ◌<◌, ◌≤◌}
use mathlib.Core.Path.{◌≡◌, refl, sym, ap, ◌∙◌}
use mathlib.Core.Bool.{Bool, false, cond, not, ◌&&◌, and-false, false≢true}
use mathlib.Core.Logic.{◌⊎◌, inl, inr, ⊎_elim}
use mathlib.Core.List.{List, [], ◌∷◌}
use native.Mathlib.Decide.{dec_le}
use native.Mathlib.Nat.{lt_of_not-le, eq-or-lt_of_le}
use native.Mathlib.Omega.{arith}
use borrow.Author.Tests.{eqb-true, eq-eqb, ne_eqb, ltb-true, lt-ltb, not-true, not-false}
use lib.Dec.{ltb}
use lib.Ieee.{Float}
use lib.ListN.{length}
use Rattle.octets.specs.Parts.{zeros, same}
use Rattle.octets.proofs.PartLaws.{same_eq, same_refl}
use Rattle.refusals.specs.Rules.{is_accepted, rule, first, numbered}
use Rattle.refusals.specs.Sentences.{AnswersBy}
use Rattle.refusals.proofs.RuleLaws.{by_test}
use Rattle.refusals.proofs.Denials.{Denies, equal, at_most, both}
use Rattle.refusals.proofs.SentenceLaws.{Tells, tells_equal, tells_at_most, tells_not, tells_both, tells_either, tells_true, done, ◌&◌, answers_by}
use Rattle.seal.specs.declared.Calibration.{Calibration}
use Rattle.seal.specs.declared.Gate.{Gate}
use Rattle.seal.specs.declared.Gate.TheVariants.{None, AtLeast, Between}
use Rattle.seal.specs.Body.{kind, low, high, raw, float_of, is_zero, gate_of, unused_limit_set, is_broken, read_of}
use Rattle.seal.specs.Pull.{pull_of, bad_limit, within, judge_of, seal_answer, seal_refusals}
use Rattle.seal.proofs.PullLaws.{answered}
use Rattle.ledger.specs.declared.Ledger.{Ledger}
use Rattle.bag.specs.Contents.{row_count, row_start, entry_of, kind_at, in_order, laid_out, body_of}
use Rattle.bag.specs.SealAndCases.{seal_in, layout_answer, gate_answer, judged_cases, judged_all, all_judged, report, scanned_of, table_after_bag}
use Rattle.demands.specs.BagRefusals.{RowsLaidOut, SealLaidOut, LaidOut, bag_sentences, BadLimit, Within, seal_sentences}

-- k rows from row i on, the first body at index at
record InOrder (k i at : ℕ) (b : List ℕ) : Type 0 where
  kinds : (j : ℕ) → i ≤ j → j < i + k → (entry_of j b).kind ≡ kind_at j
  starts : 1 ≤ k → (entry_of i b).offset ≡ at
  touch : (j : ℕ) → i ≤ j → j + 1 < i + k → (entry_of (j + 1) b).offset ≡ (entry_of j b).offset + (entry_of j b).size
  ends : 1 ≤ k → (entry_of (i + k - 1) b).offset + (entry_of (i + k - 1) b).size ≡ length b
  empty : k ≡ 0 → at ≡ length b

-- where body j ends
abbrev end_of : List ℕ → ℕ → ℕ
end_of b j = (entry_of j b).offset + (entry_of j b).size

module _ (k i at : ℕ) (b : List ℕ) where
  abbrev next : ℕ
  next = at + (entry_of i b).size

  -- a row in front of rows in order
  forth : (entry_of i b).kind ≡ kind_at i → (entry_of i b).offset ≡ at → InOrder k (i + 1) next b → InOrder (suc k) i at b
  forth p q o =
      record {
        kinds = λ j l m. ⊎_elim (λ (e : i ≡ j). ap (λ (x : ℕ). (entry_of x b).kind) (sym e) ∙ p ∙ ap kind_at e) (λ f. o.kinds j (omega (arith, f)) (omega arith)) (eq-or-lt_of_le l);
        starts = λ l. q;
        touch = λ j l m. ⊎_elim (λ (e : i ≡ j). ap (λ (x : ℕ). (entry_of (x + 1) b).offset) (sym e) ∙ o.starts (omega arith) ∙ ap (λ (x : ℕ). x + (entry_of i b).size) (sym q) ∙ ap (end_of b) e) (λ f. o.touch j (omega (arith, f)) (omega arith)) (eq-or-lt_of_le l);
        ends = λ l. last (dec_le 1 k);
        empty = λ e. absurd (omega arith);
      }
    where
      last : Dec (1 ≤ k) → end_of b (i + suc k - 1) ≡ length b
      last (yes l) =
          let e : i + suc k - 1 ≡ i + 1 + k - 1 = omega arith in
          ap (end_of b) e ∙ o.ends l
      last (no l) =
          let f : k < 1 = lt_of_not-le l in
          let e : i + suc k - 1 ≡ i = omega arith in
          ap (end_of b) e ∙ ap (λ (x : ℕ). x + (entry_of i b).size) q ∙ o.empty (omega arith)

  -- the rows behind the first
  back : InOrder (suc k) i at b → InOrder k (i + 1) next b
  back o =
      let first-end : end_of b i ≡ next = ap (λ (x : ℕ). x + (entry_of i b).size) (o.starts (omega arith)) in
      let e : i + suc k - 1 ≡ i + 1 + k - 1 = omega arith in
      record {
        kinds = λ j l m. o.kinds j (omega arith) (omega arith);
        starts = λ l. o.touch i (omega arith) (omega arith) ∙ first-end;
        touch = λ j l m. o.touch j (omega arith) (omega arith);
        ends = λ l. ap (end_of b) (sym e) ∙ o.ends (omega arith);
        empty = λ z. let f : i + suc k - 1 ≡ i = omega arith in sym first-end ∙ ap (end_of b) (sym f) ∙ o.ends (omega arith);
      }

in_order_lem : (k i at : ℕ) (b : List ℕ) → Tells (in_order k i at b) (InOrder k i at b)
unfolding in_order
in_order_lem zero i at b =
    (λ h. record { kinds = λ j l m. absurd (omega arith); starts = λ l. absurd (omega arith); touch = λ j l m. absurd (omega arith); ends = λ l. absurd (omega arith); empty = λ e. eqb-true at (length b) h }, λ o. eq-eqb at (length b) (o.empty refl))
in_order_lem (suc k) i at b =
    let t = tells_both (tells_both tells_equal tells_equal) (in_order_lem k (i + 1) (next k i at b) b) in
    (λ h. let p = t.0 h in forth k i at b p.0.0 p.0.1 p.1, λ o. t.1 ((o.kinds i (omega arith) (omega arith), o.starts (omega arith)), back k i at b o))

-- THE ROWS of a bag
rows_told : (b : List ℕ) → Tells (laid_out b) (RowsLaidOut b)
unfolding laid_out
rows_told b =
    let n = row_count b in
    let t = tells_both (tells_both (tells_both tells_at_most tells_at_most) tells_at_most) (in_order_lem n 0 (row_start n) b) in (
      λ h. let p = t.0 h in
          let l : 1 ≤ n = p.0.0.1 in
          record {
            size = p.0.0.0;
            some = l;
            few = p.0.1;
            seal_first = p.1.kinds 0 (omega arith) (omega arith);
            then_cases = λ i f g. p.1.kinds i (omega arith) (omega arith) ∙ ap (λ (x : Bool). cond x 1 2) (ne_eqb i 0 (λ e. absurd (omega arith)));
            first_body = p.1.starts l;
            touching = λ i f. p.1.touch i (omega arith) (omega arith);
            last_body = let e : 0 + n - 1 ≡ n - 1 = omega arith in ap (end_of b) (sym e) ∙ p.1.ends l;
          },
      λ r. t.1 (((r.size, r.some), r.few), rows_in r),
    )
  where
    rows_in : RowsLaidOut b → InOrder (row_count b) 0 (row_start (row_count b)) b
    rows_in r =
        record {
          kinds = λ j l m. ⊎_elim (λ (e : 0 ≡ j). rw (sym e) r.seal_first) (λ f. r.then_cases j (omega (arith, f)) (omega arith) ∙ ap (λ (x : Bool). cond x 1 2) (sym (ne_eqb j 0 (λ e. absurd (omega (arith, f)))))) (eq-or-lt_of_le l);
          starts = λ l. r.first_body;
          touch = λ j l m. r.touching j (omega arith);
          ends = λ l. let e : 0 + row_count b - 1 ≡ row_count b - 1 = omega arith in ap (end_of b) e ∙ r.last_body;
          empty = λ e. absurd (omega (arith, r.some));
        }

-- THE SEAL'S BODY: a limit is a breach unless it is used or zero
unused_clear : (k from : ℕ) (limit : List ℕ) → Denies (unused_limit_set k from limit) (k < from → limit ≡ zeros 8)
unfolding unused_limit_set is_zero
unused_clear k from limit =
    (λ h l. same_eq limit (zeros 8) (not-false (same limit (zeros 8)) (rw (lt-ltb k from l) at h)), λ u. by_test (ltb k from) (λ e. rw (e, u (ltb-true k from e), same_refl (zeros 8))) (λ e. rw e))

seal_told : (s : List ℕ) → Denies (is_broken s) (SealLaidOut s)
unfolding is_broken
seal_told s =
    let d = both (both (both equal at_most) (unused_clear (kind s) 1 (low s))) (unused_clear (kind s) 2 (high s)) in
    (λ h. let p = d.0 h in record { long = p.0.0.0; known = p.0.0.1; low_unused = p.0.1; high_unused = p.1 }, λ o. d.1 (((o.long, o.known), o.low_unused), o.high_unused))

-- THE WHOLE LAYOUT, as one test
abbrev is_laid_out : List ℕ → Bool
is_laid_out b = laid_out b && not (is_broken (body_of 0 b))

layout_told : (b : List ℕ) → Tells (is_laid_out b) (LaidOut b)
layout_told b =
    let s = seal_told (body_of 0 b) in
    let t = tells_both (rows_told b) (λ h. s.0 (not-true (is_broken (body_of 0 b)) h), λ o. ap not (s.1 o)) in
    (λ h. let p = t.0 h in record { rows = p.0; seal = p.1 }, λ o. t.1 (o.rows, o.seal))

layout_first : (b : List ℕ) → layout_answer (seal_in b) ≡ first (rule (not (is_laid_out b)) 20 0 ∷ [])
unfolding seal_in read_of first
layout_first b =
    by_test (laid_out b)
    (λ e. by_test (is_broken (body_of 0 b)) (λ f. rw (e, f)) (λ f. rw (e, f)))
    (λ e. rw e)

-- A GATE
is_false : {b : Bool} → Tells (not b) (b ≡ false)
is_false {b} = (not-true b, λ e. ap not e)

bad_told : (g : Gate) → Tells (bad_limit g) (BadLimit g)
unfolding bad_limit
bad_told None = (λ h. absurd (false≢true h), λ x. absurd x)
bad_told (AtLeast x) = is_false
bad_told (Between x y) =
    let t = tells_either (tells_either is_false is_false) tells_true in
    (λ h. ⊎_elim (⊎_elim (λ a. inl a) (λ b. inr (inl b))) (λ c. inr (inr c)) (t.0 h), λ s. t.1 (⊎_elim (λ a. inl (inl a)) (⊎_elim (λ b. inl (inr b)) (λ c. inr c)) s))

within_told : (g : Gate) (p : Float) → Tells (within g p) (Within g p)
unfolding within
within_told None p = (λ h. tt, λ h. refl)
within_told (AtLeast x) p = tells_true
within_told (Between x y) p = tells_both tells_true tells_true

pub seal_answered : (k : Calibration) (g : Gate) (x : Float) → AnswersBy (seal_sentences k g x) (seal_answer (judge_of k g x))
unfolding seal_refusals seal_sentences numbered
seal_answered k g x = rw (answered k g x) (answers_by refl (bad_told g & is_false & tells_not (within_told g (pull_of x k)) & done))

none_judged : (k : Calibration) (b : List ℕ) → ((layout_answer (seal_in b)).number ≡ 0 → ⊥) ⊎ ((gate_answer k (seal_in b)).number ≡ 0 → ⊥) → judged_cases k b ≡ []
unfolding judged_cases
none_judged k b (inl h) = rw (ne_eqb (layout_answer (seal_in b)).number 0 h)
none_judged k b (inr h) = rw (ne_eqb (gate_answer k (seal_in b)).number 0 h, and-false (is_accepted (layout_answer (seal_in b))))

-- A BAG, scanned on any ledger
module _ (k : Calibration) (b t r : List ℕ) (l : Ledger) where
  pub bag_answered : AnswersBy (bag_sentences b) (scanned_of k b t r l).layout
  unfolding scanned_of report bag_sentences numbered
  bag_answered = rw (layout_first b) (answers_by refl (tells_not (layout_told b) & done))

  -- the seal is the one that the first body says
  pub bag_seal_answered : LaidOut b → AnswersBy (seal_sentences k (gate_of (body_of 0 b)) (float_of (raw (body_of 0 b)))) (scanned_of k b t r l).seal
  unfolding scanned_of report seal_in read_of
  bag_seal_answered o =
      rw ((rows_told b).1 o.rows, (seal_told (body_of 0 b)).1 o.seal) (seal_answered k (gate_of (body_of 0 b)) (float_of (raw (body_of 0 b))))

  -- where layout or seal refuses, no case is judged and nothing changes; the roll is lent for reading alone
  pub bag_leaves : ((scanned_of k b t r l).layout.number ≡ 0 → ⊥) ⊎ ((scanned_of k b t r l).seal.number ≡ 0 → ⊥)
      → ((scanned_of k b t r l).cases ≡ 0) × (((scanned_of k b t r l).ledger ≡ l) × (table_after_bag k b t r l ≡ t))
  unfolding scanned_of report table_after_bag all_judged judged_all
  bag_leaves h =
      let e = none_judged k b h in
      (rw e, (rw e, rw (table_after_bag, e)))
