-- An answer in hand, own, weighed against a table of refusals that is asked one by one: what is passed on is the lower of the two.
-- Assumes nothing.
use Prim.Native.Nat.{ℕ}
use mathlib.Core.Path.{◌≡◌, refl, sym, ap, ◌∙◌}
use mathlib.Core.Bool.{Bool, true, false, cond}
use mathlib.Core.List.{List, [], ◌∷◌}
use Rattle.std.specs.Prelude.{Result, Ok, Err}
use Rattle.std.specs.Result.{IsErr, IsErrAnd}
use Rattle.refusals.specs.declared.Answer.{Answer}
use Rattle.refusals.specs.declared.Refusal.{Refusal}
use Rattle.refusals.specs.Reasons.{answer_for}
use Rattle.refusals.specs.Rules.{Rule, rules_in, first, numbered, accepted, is_accepted, lower, refuses_up_to}
use Rattle.refusals.proofs.RuleLaws.{never_accepted, decided_by, passed_by, one_passed}
use Rattle.refusals.proofs.TwoTables.{all_from, all_up_to, keeps, gives_up, has_still}
use Rattle.casefile.specs.Fields.{anchor_of, nullifier_of}
use Rattle.ledger.specs.declared.Ledger.{Ledger}
use Rattle.ledger.specs.Ledgers.{damaged, no2, no6, no8}
use Rattle.judge.specs.Settling.{kept_unless, own_or}
use Rattle.judge.proofs.Halves.{pool_refusals}
use native.Mathlib.Omega.{arith}

-- what `unless` says of the answer in hand
passed_own : (b : Bool) (own a : Answer) → ◌≡◌ {A = Result (Unit {0}) Answer} (Err a) (cond b (Err own) (Ok tt)) → (b ≡ true) × (a ≡ own)
passed_own true own a h = (refl, cc)
passed_own false own a h = cc

held_own : (b : Bool) (own : Answer) (u : Unit {0}) → ◌≡◌ {A = Result (Unit {0}) Answer} (Ok u) (cond b (Err own) (Ok tt)) → b ≡ false
held_own true own u h = cc
held_own false own u h = refl

-- what `?` passes on is what the caller gets
passed_answer : (own a : Answer) (passed : Result Unit Answer) → IsErr passed × IsErrAnd passed (λ (x : Answer). x ≡ a) → own_or own passed ≡ a
passed_answer own a (Err x) h = h.1
passed_answer own a (Ok u) h = absurd h.1

module _ (own : Answer) where
  -- own counts where it refuses with a number up to n and all that is left has n or more
  pub own_stops : (n : ℕ) (a : Answer) (passed : Result Unit Answer) (gs : List (List Rule)) → all_from n (rules_in gs) ≡ true → Err a ≡ kept_unless n own
      → IsErr passed × IsErrAnd passed (λ (x : Answer). x ≡ a) → own_or own passed ≡ lower own (first (rules_in gs))
  own_stops n a passed gs k e h =
      let p = passed_own (refuses_up_to n own) own a e in
      passed_answer own a passed h ∙ p.1 ∙ keeps n own (rules_in gs) p.0 k

  -- the refusal of the group g counts where it has a number up to n and own does not refuse with one
  pub group_stops : (n : ℕ) (u : Unit) (refusal : Refusal) (passed : Result Unit Answer) (g : List Rule) (gs : List (List Rule)) → all_up_to n g ≡ true → Ok u ≡ kept_unless n own
      → answer_for refusal ≡ first g → IsErr passed × IsErrAnd passed (λ (x : Answer). x ≡ answer_for refusal) → own_or own passed ≡ lower own (first (rules_in (g ∷ gs)))
  group_stops n u refusal passed g gs k o e h =
      passed_answer own (answer_for refusal) passed h
      ∙ gives_up n own g (answer_for refusal) (held_own (refuses_up_to n own) own u o) k e (never_accepted refusal)
      ∙ ap (lower own) (decided_by g gs (answer_for refusal) (never_accepted refusal) e)

  -- a group that refuses nothing is passed over
  pub group_passes : (a : Answer) (g : List Rule) (gs : List (List Rule)) → numbered g ≡ true → accepted ≡ first g → a ≡ lower own (first (rules_in gs)) → a ≡ lower own (first (rules_in (g ∷ gs)))
  group_passes a g gs n e h = h ∙ ap (lower own) (passed_by g gs (first (rules_in gs)) n e refl)

  -- nothing is left
  pub own_stays : own ≡ lower own (first (rules_in []))
  unfolding rules_in first
  own_stays = has_still own accepted refl

module _ (c t r : List ℕ) (l : Ledger) where
  -- what the ledger is asked behind 3
  abbrev pub from_middle : List (List Rule)
  from_middle = no6 r l (anchor_of c) ∷ no8 t l (nullifier_of 1 c) (nullifier_of 2 c) ∷ pool_refusals c l ∷ []

-- 2 asked and passed: the ledger is sound
pub asked_sound : (t r : List ℕ) (l : Ledger) → accepted ≡ first (no2 t r l) → damaged t r l ≡ false
unfolding no2
asked_sound t r l e = one_passed (damaged t r l) 2 0 (λ z. omega arith) (ap is_accepted (sym e))
