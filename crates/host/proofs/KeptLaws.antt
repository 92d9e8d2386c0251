-- What a host keeps between two calls is the ledger: read back from its bytes it is the very one that the call left. So what the demands say of ledgers
-- holds of a host's three buffers. A bag is read back by induction on its cases: each leaves a ledger that fits.
-- Assumes nothing.
use Prim.Native.Nat.{ℕ, ◌≤◌}
use mathlib.Core.Path.{◌≡◌, refl, sym, ap, ◌∙◌}
use mathlib.Core.Bool.{Bool, true, false, cond}
use mathlib.Core.List.{List, [], ◌∷◌}
use native.Mathlib.Omega.{arith}
use borrow.Author.Tests.{eqb-true}
use lib.ListN.{length, length-replicate}
use Rattle.octets.specs.Rows.{Long}
use Rattle.octets.proofs.PartLaws.{field_length}
use Rattle.refusals.specs.Rules.{None, rules_in, first, numbered, is_accepted}
use Rattle.refusals.proofs.RuleLaws.{by_test, first_none}
use Rattle.tree.specs.Record.{fresh_of}
use Rattle.tree.proofs.Grown.{grown_long}
use Rattle.casefile.specs.Fields.{commitment_of}
use Rattle.ledger.specs.declared.Ledger.{Ledger}
use Rattle.ledger.specs.Ledgers.{most_nullifiers, most_anchors, open_refusals, opened_of, empty_ledger, entered_of, no2, close_refusals, closed_of, roll_after_close}
use Rattle.ledger.proofs.Soundness.{Sound, undamaged, at_most}
use Rattle.ledger.proofs.Endings.{open_refused, open_passed, close_refused, close_passed, close_sound}
use Rattle.ledgerbytes.specs.LedgerBytes.{is_whole, ledger_of, buffer_after_write, Fits}
use Rattle.ledgerbytes.proofs.KeepingLaws.{read_written}
use Rattle.seal.specs.declared.Calibration.{Calibration}
use Rattle.bag.specs.SealAndCases.{seal_in, layout_answer, gate_answer, judged_cases, report, scanned_of}
use Rattle.judge.specs.Judging.{answer_of, ledger_after_case, table_after_case}
use Rattle.judge.proofs.Outcomes.{refused_ledger}
use Rattle.demands.specs.Histories.{Call, judged, closed, Held, held_after, held_after_all}
use Rattle.demands.specs.Bags.{calls_of}
use Rattle.demands.proofs.Bags.{bag_is_calls}
use Rattle.demands.proofs.OneCase.{commitment_long, ledger_is, sound_then}
use Rattle.host.specs.Answers.{is_long}
use Rattle.host.specs.Bags.{own_answer, scan_of, bag_answer, ledger_after_bag_call}
use Rattle.host.specs.Ledgers.{ledger_after_open_call, judge_answer, ledger_after_judge_call, close_answer, ledger_after_close_call}

-- a ledger that is not damaged fits
sound_fits : (t r : List ℕ) (l : Ledger) → Sound t r l → length l.tree.nodes ≡ 960 → Fits l
sound_fits t r l s n =
    let few : l.nullifiers ≤ 65536 = at_most l.nullifiers most_nullifiers (length t) s.fits in
    let marks : l.anchors ≤ 4096 = at_most l.anchors most_anchors (length r) s.roll in
    record {
      nullifiers = omega arith;
      anchors = omega arith;
      pool = omega (arith, s.pool);
      leaves = omega (arith, s.leaves);
      nodes = n;
    }

-- 960 bytes of nodes are read from any bytes
read_long : (s : List ℕ) → length (ledger_of s).tree.nodes ≡ 960
unfolding ledger_of
read_long s = field_length 28 960 s

-- JUDGING
entered_long : (l : Ledger) (c : List ℕ) (old new : ℕ) → length l.tree.nodes ≡ 960
    → length (entered_of l (commitment_of 1 c) (commitment_of 2 c) old new).tree.nodes ≡ 960
unfolding entered_of Long
entered_long l c old new h =
    grown_long l.tree (commitment_of 1 c ∷ commitment_of 2 c ∷ []) ((commitment_long c).0, ((commitment_long c).1, tt)) h

fits_entered : (c t r : List ℕ) (l : Ledger) → length l.tree.nodes ≡ 960 → (answer_of c t r l).number ≡ 0 → Fits (ledger_after_case c t r l)
fits_entered c t r l n h =
    sound_fits (table_after_case c t r l) r (ledger_after_case c t r l) (sound_then c t r l h) (ap (λ (x : Ledger). length x.tree.nodes) (ledger_is c t r l h) ∙ entered_long l c _ _ n)

pub judged_back : (c s t r : List ℕ) → is_whole s ≡ true → ledger_of (ledger_after_judge_call c s t r) ≡ ledger_after_case c t r (ledger_of s)
unfolding judge_answer ledger_after_judge_call
judged_back c s t r w =
    let l = ledger_of s in
    by_test (is_accepted (answer_of c t r l))
    (λ e. rw (w, e) (read_written (ledger_after_case c t r l) (fits_entered c t r l (read_long s) (eqb-true (answer_of c t r l).number 0 e))))
    (λ e. rw (w, e) (sym (refused_ledger c t r l e)))

-- CLOSING
close_before : (t r : List ℕ) (l : Ledger) → is_accepted (first (close_refusals t r l)) ≡ true → Sound t r l
unfolding None close_refusals rules_in numbered no2
close_before t r l h = undamaged t r l (first_none (close_refusals t r l) refl (eqb-true (first (close_refusals t r l)).number 0 h)).0

fits_closed : (t r : List ℕ) (l : Ledger) → length l.tree.nodes ≡ 960 → is_accepted (first (close_refusals t r l)) ≡ true → Fits (closed_of t r l)
fits_closed t r l n e =
    sound_fits t (roll_after_close t r l) (closed_of t r l) (close_sound t r l e (close_before t r l e)) (ap (λ (x : Ledger). length x.tree.nodes) (sym (close_passed t r l e).0) ∙ n)

pub closed_back : (s t r : List ℕ) → is_whole s ≡ true → ledger_of (ledger_after_close_call s t r) ≡ closed_of t r (ledger_of s)
unfolding close_answer ledger_after_close_call
closed_back s t r w =
    let l = ledger_of s in
    by_test (is_accepted (first (close_refusals t r l)))
    (λ e. rw (w, e) (read_written (closed_of t r l) (fits_closed t r l (read_long s) e)))
    (λ e. rw (w, e) (close_refused t r l e).0)

-- OPENING
start_fits : (n : ℕ) → n ≤ 1 → Fits (empty_ledger n)
unfolding empty_ledger fresh_of
start_fits n h =
    record { nullifiers = omega arith; anchors = omega arith; pool = omega arith; leaves = omega arith; nodes = length-replicate {A = ℕ} 960 0 }

pub fits_opened : (r : List ℕ) → Fits (opened_of r)
fits_opened r =
    by_test (is_accepted (first (open_refusals r)))
    (λ e. rw (← (open_passed r e).0) (start_fits 1 (omega arith)))
    (λ e. rw (← (open_refused r e).0) (start_fits 0 (omega arith)))

pub opened_back : (s r : List ℕ) → is_whole s ≡ true → ledger_of (ledger_after_open_call s r) ≡ opened_of r
unfolding buffer_after_write
opened_back s r w =
    rw w (read_written (opened_of r) (fits_opened r))

-- ANY CALLS on a ledger that fits leave one that fits
fits_after : (x : Call) (h : Held) → Fits h.ledger → Fits (held_after x h).ledger
unfolding held_after
fits_after (judged c) h f =
    by_test (is_accepted (answer_of c h.table h.roll h.ledger))
    (λ e. fits_entered c h.table h.roll h.ledger f.nodes (eqb-true (answer_of c h.table h.roll h.ledger).number 0 e))
    (λ e. rw (refused_ledger c h.table h.roll h.ledger e) f)
fits_after closed h f =
    by_test (is_accepted (first (close_refusals h.table h.roll h.ledger)))
    (λ e. fits_closed h.table h.roll h.ledger f.nodes e)
    (λ e. rw (← (close_refused h.table h.roll h.ledger e).0) f)

pub fits_all : (calls : List Call) (h : Held) → Fits h.ledger → Fits (held_after_all calls h).ledger
unfolding held_after_all
fits_all [] h f = f
fits_all (x ∷ xs) h f = fits_all xs (held_after x h) (fits_after x h f)

-- A BAG
module _ (k : Calibration) (b s t r o : List ℕ) where
  -- a bag that is refused has no case judged
  pub refused_none : is_accepted (own_answer (scan_of k b s t r)) ≡ false → judged_cases k b ≡ []
  unfolding scanned_of report judged_cases
  refused_none h =
      by_test (is_accepted (layout_answer (seal_in b)))
      (λ e. let f : is_accepted (gate_answer k (seal_in b)) ≡ false = ap (λ (x : Bool). is_accepted (cond x (gate_answer k (seal_in b)) (layout_answer (seal_in b)))) (sym e) ∙ h in rw (e, f))
      (λ e. rw e)

  -- and so leaves the ledger as it was
  refused_stays : is_accepted (own_answer (scan_of k b s t r)) ≡ false → (scan_of k b s t r).ledger ≡ ledger_of s
  unfolding calls_of held_after_all
  refused_stays h =
      (bag_is_calls k b (record { table = t; roll = r; ledger = ledger_of s })).ledger ∙ rw (refused_none h)

  pub scan_fits : Fits (ledger_of s) → Fits (scan_of k b s t r).ledger
  scan_fits f =
      let h : Held = record { table = t; roll = r; ledger = ledger_of s } in
      rw (bag_is_calls k b h).ledger (fits_all (calls_of (judged_cases k b)) h f)

  pub bag_back : is_whole s ≡ true → is_long 32 o ≡ true → Fits (ledger_of s) → ledger_of (ledger_after_bag_call k b s t r o) ≡ (scan_of k b s t r).ledger
  unfolding bag_answer ledger_after_bag_call
  bag_back w l f =
      by_test (is_accepted (own_answer (scan_of k b s t r)))
      (λ e. rw (w, l, e) (read_written (scan_of k b s t r).ledger (scan_fits f)))
      (λ e. rw (w, l, e) (sym (refused_stays e)))
