-- A HOST'S SHIFT IS A RUN OF CALLS: whatever calls it makes on its three buffers, the ledger that these then say, the table and the roll are what the
-- calls of a history leave. By induction on the calls; each leaves 988 bytes that say a ledger which fits.
-- Assumes nothing.
use Prim.Native.Nat.{ℕ}
use mathlib.Core.Path.{◌≡◌, refl, sym, ap, ◌∙◌}
use mathlib.Core.Bool.{Bool, true, false, cond}
use mathlib.Core.List.{List, [], ◌∷◌}
use borrow.Author.Tests.{eq-eqb}
use lib.ListN.{length}
use Rattle.refusals.specs.Rules.{is_accepted}
use Rattle.refusals.proofs.RuleLaws.{by_test}
use Rattle.seal.specs.declared.Calibration.{Calibration}
use Rattle.ledger.specs.declared.Ledger.{Ledger}
use Rattle.ledger.specs.Ledgers.{opened_of}
use Rattle.ledgerbytes.specs.LedgerBytes.{is_whole, ledger_of, ledger_bytes, buffer_after_write, Fits}
use Rattle.ledgerbytes.proofs.KeepingLaws.{bytes_long}
use Rattle.demands.specs.Histories.{judged, closed, Held, held_after, held_after_all, held_at_opening}
use Rattle.demands.proofs.Bags.{bag_is_calls}
use Rattle.demands.proofs.Calls.{after_append}
use Rattle.host.specs.Answers.{is_long}
use Rattle.host.specs.Ledgers.{roll_after_open_call, judge_answer, ledger_after_judge_call, table_after_judge_call, close_answer, ledger_after_close_call, roll_after_close_call}
use Rattle.host.specs.Bags.{bag_answer, ledger_after_bag_call, table_after_bag_call}
use Rattle.host.specs.Shifts.{Buffers, held_in, HostCall, judge_call, bag_call, close_call, buffers_after, after_shift, opened_buffers, calls_in, shift_calls}
use Rattle.host.proofs.KeptLaws.{judged_back, closed_back, opened_back, bag_back, scan_fits, fits_all, fits_opened}

-- what is held, by its parts
parts : {t t' r r' : List ℕ} {l l' : Ledger} → t ≡ t' → r ≡ r' → l ≡ l' → ◌≡◌ {A = Held} (record { table = t; roll = r; ledger = l }) (record { table = t'; roll = r'; ledger = l' })
parts p q e = rw (p, q, e)

-- 988 bytes are written or stay
whole_after : (a : Bool) (l : Ledger) (s : List ℕ) → Fits l → is_whole s ≡ true → is_whole (cond a (ledger_bytes l) s) ≡ true
whole_after true l s f w = eq-eqb (length (ledger_bytes l)) 988 (bytes_long l f)
whole_after false l s f w = w

-- ONE CALL on buffers that say a ledger which fits
module _ (b : Buffers) (w : is_whole b.ledger ≡ true) (f : Fits (ledger_of b.ledger)) where
  -- a bag that is lent no report's 32 bytes changes nothing
  unlent : (k : Calibration) (g o : List ℕ) → is_long 32 o ≡ false → ledger_after_bag_call k g b.ledger b.table b.roll o ≡ b.ledger
  unfolding ledger_after_bag_call bag_answer
  unlent k g o l = rw (w, l)

  called : (x : HostCall) → held_in (buffers_after x b) ≡ held_after_all (calls_in x) (held_in b)
  unfolding buffers_after calls_in held_after_all held_after table_after_judge_call roll_after_close_call table_after_bag_call
  called (judge_call c) = parts (rw w) refl (judged_back c b.ledger b.table b.roll w)
  called close_call = parts refl (rw w) (closed_back b.ledger b.table b.roll w)
  called (bag_call k g o) =
      by_test (is_long 32 o)
      (λ l. let a = bag_is_calls k g (held_in b) in rw l (parts (rw w a.table) a.roll (bag_back k g b.ledger b.table b.roll o w l f ∙ a.ledger)))
      (λ l. rw l (parts (rw w) refl (ap ledger_of (unlent k g o l))))

  still_whole : (x : HostCall) → is_whole (buffers_after x b).ledger ≡ true
  unfolding buffers_after ledger_after_judge_call ledger_after_close_call ledger_after_bag_call held_after_all held_after
  still_whole (judge_call c) = whole_after (is_accepted (judge_answer c b.ledger b.table b.roll)) _ b.ledger (fits_all (judged c ∷ []) (held_in b) f) w
  still_whole close_call = whole_after (is_accepted (close_answer b.ledger b.table b.roll)) _ b.ledger (fits_all (closed ∷ []) (held_in b) f) w
  still_whole (bag_call k g o) = whole_after (is_accepted (bag_answer k g b.ledger b.table b.roll o)) _ b.ledger (scan_fits k g b.ledger b.table b.roll o f) w

  still_fits : (x : HostCall) → Fits (ledger_of (buffers_after x b).ledger)
  still_fits x = rw (ap (λ (h : Held). h.ledger) (called x)) (fits_all (calls_in x) (held_in b) f)

-- ALL CALLS, from any 988 bytes that say a ledger which fits
pub shift : (xs : List HostCall) (b : Buffers) → is_whole b.ledger ≡ true → Fits (ledger_of b.ledger) → held_in (after_shift xs b) ≡ held_after_all (shift_calls xs) (held_in b)
unfolding after_shift shift_calls held_after_all
shift [] b w f = refl
shift (x ∷ xs) b w f =
    shift xs (buffers_after x b) (still_whole b w f x) (still_fits b w f x)
    ∙ ap (held_after_all (shift_calls xs)) (called b w f x)
    ∙ sym (after_append (calls_in x) (shift_calls xs) (held_in b))

-- FROM AN OPENED LEDGER: 988 bytes that held anything, a table of any bytes, any roll
module _ (s t r : List ℕ) (w : is_whole s ≡ true) where
  first_held : held_in (opened_buffers s t r) ≡ held_at_opening t r
  unfolding opened_buffers held_at_opening roll_after_open_call
  first_held = parts refl (rw w) (opened_back s r w)

  first_whole : is_whole (opened_buffers s t r).ledger ≡ true
  unfolding opened_buffers buffer_after_write
  first_whole = whole_after (is_whole s) (opened_of r) s (fits_opened r) w

  opened_fits : Fits (held_at_opening t r).ledger
  unfolding held_at_opening
  opened_fits = fits_opened r

  pub shift_from_open : (xs : List HostCall) → held_in (after_shift xs (opened_buffers s t r)) ≡ held_after_all (shift_calls xs) (held_at_opening t r)
  shift_from_open xs =
      let e = first_held in
      shift xs (opened_buffers s t r) first_whole (rw (ap (λ (h : Held). h.ledger) e) opened_fits) ∙ ap (held_after_all (shift_calls xs)) e
