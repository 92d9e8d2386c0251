-- ONE CALL, whichever it is: a refused one leaves all that is held, and any leaves a sound ledger sound. And calls after calls.
-- Assumes nothing.
use Prim.Native.Nat.{ℕ}
use mathlib.Core.Path.{◌≡◌, refl, sym, ap₂}
use mathlib.Core.Bool.{true, false}
use mathlib.Core.List.{List, [], ◌∷◌, ◌++◌}
use borrow.Author.Tests.{eqb-true}
use Rattle.refusals.specs.Rules.{is_accepted}
use Rattle.refusals.proofs.RuleLaws.{by_test}
use Rattle.ledger.specs.declared.Ledger.{Ledger}
use Rattle.ledger.proofs.Soundness.{Sound}
use Rattle.ledger.proofs.Endings.{close_refused, close_sound}
use Rattle.judge.proofs.Outcomes.{refused_ledger, refused_table}
use Rattle.demands.specs.Histories.{Call, judged, closed, Held, held_after, held_after_all, answer_on}
use Rattle.demands.specs.Pools.{answer_to}
use Rattle.demands.proofs.OneCase.{sound_then}

pub refused_call : (x : Call) (b : Held) → is_accepted (answer_to x b) ≡ false → held_after x b ≡ b
unfolding held_after
refused_call (judged c) b h =
    ap₂ (λ (t : List ℕ) (l : Ledger). record { table = t; roll = b.roll; ledger = l }) (refused_table c b.table b.roll b.ledger h) (refused_ledger c b.table b.roll b.ledger h)
refused_call closed b h =
    let e = close_refused b.table b.roll b.ledger h in
    ap₂ (λ (r : List ℕ) (l : Ledger). record { table = b.table; roll = r; ledger = l }) (sym e.1) (sym e.0)

-- a ledger that is held is sound
abbrev pub SoundIn : Held → Type 0
SoundIn b = Sound b.table b.roll b.ledger

passed_call : (x : Call) (b : Held) → is_accepted (answer_to x b) ≡ true → SoundIn b → SoundIn (held_after x b)
unfolding held_after
passed_call (judged c) b h s = sound_then c b.table b.roll b.ledger (eqb-true (answer_on c b).number 0 h)
passed_call closed b h s = close_sound b.table b.roll b.ledger h s

pub sound_call : (x : Call) (b : Held) → SoundIn b → SoundIn (held_after x b)
sound_call x b s = by_test (is_accepted (answer_to x b)) (λ h. passed_call x b h s) (λ h. rw (refused_call x b h) s)

-- some calls, and then others
pub after_append : (xs ys : List Call) (b : Held) → held_after_all (xs ++ ys) b ≡ held_after_all ys (held_after_all xs b)
unfolding held_after_all
after_append [] ys b = refl
after_append (x ∷ xs) ys b = after_append xs ys (held_after x b)
