-- One refusal after the other in the order of the numbers; 1 was asked before. What is asked of the lent rows rests on 2, which was passed.
use Prim.Native.Nat.{ℕ}
use mathlib.Core.Bool.{true, not}
use mathlib.Core.Path.{◌≡◌, refl, ap, ◌∙◌}
use mathlib.Core.List.{List, [], ◌∷◌}
use lib.ListN.{length}
use Rattle.refusals.specs.declared.Answer.{Answer}
use Rattle.refusals.specs.Rules.{Rule, rules_in, first, accepted, numbered}
use Rattle.refusals.proofs.RuleLaws.{refused_by, passed_by, run_refused_by, run_passed_by, one_fails, last_group}
use Rattle.casefile.specs.Fields.{has_length}
use Rattle.statement.specs.CaseRefusals.{no1, no4, no5, no7}
use Rattle.ledger.specs.declared.Ledger.{Ledger}
use Rattle.ledger.specs.Ledgers.{most_nullifiers, most_anchors, no2, no3, no6}
use Rattle.ledger.proofs.Soundness.{undamaged, within}
use Rattle.ledgerbytes.specs.LedgerBytes.{bare}
use Rattle.judge.specs.Judging.{front_refusals}
use Rattle.judge.proofs.Weighing.{asked_sound}
use Rattle.judge.proofs.asking.ask.Goals as goal

-- what is left decides, once 1 to 3 have passed, and once 4 and 5 have
module _ (c t r : List ℕ) (l : Ledger) (h : has_length c ≡ true) (e2 : accepted ≡ first (no2 t r l)) where
  past_2 : (gs : List (List Rule)) (a : Answer) → a ≡ first (rules_in gs) → a ≡ first (rules_in (no1 c ∷ no2 t r l ∷ gs))
  unfolding numbered no1 no2
  past_2 gs a e = passed_by _ _ _ refl (one_fails _ 1 0 (ap not h)) (passed_by _ _ _ refl e2 e)

  past_3 : accepted ≡ first (no3 t l) → (gs : List (List Rule)) (a : Answer) → a ≡ first (rules_in gs) → a ≡ first (rules_in (no1 c ∷ no2 t r l ∷ no3 t l ∷ gs))
  unfolding numbered no3
  past_3 e3 gs a e = past_2 (no3 t l ∷ gs) a (passed_by _ _ _ refl e3 e)

  values_numbered : numbered (rules_in (no4 c ∷ no5 c ∷ [])) ≡ true
  unfolding rules_in numbered no4 no5
  values_numbered = refl

  past_5 : accepted ≡ first (no3 t l) → accepted ≡ first (rules_in (no4 c ∷ no5 c ∷ [])) → (gs : List (List Rule)) (a : Answer) → a ≡ first (rules_in gs)
      → a ≡ first (rules_in (no1 c ∷ no2 t r l ∷ no3 t l ∷ no4 c ∷ no5 c ∷ gs))
  past_5 e3 e4 gs a e = past_3 e3 (no4 c ∷ no5 c ∷ gs) a (run_passed_by (no4 c ∷ no5 c ∷ []) gs a values_numbered e4 e)

pub returns-in_err-sound : goal.returns-in_err-sound
unfolding front_refusals numbered no1
returns-in_err-sound c = passed_by _ _ _ refl (one_fails _ 1 0 (ap not c.requires)) (refused_by _ _ _ _ c.in_err-sound.ensures c.from_residual.ensures)

pub returns-in_err-has_room : goal.returns-in_err-has_room
unfolding front_refusals
returns-in_err-has_room c = past_2 _ _ _ _ c.requires c.in_ok-sound.ensures _ _ (refused_by _ _ _ _ c.in_err-has_room.ensures c.from_residual-in_err-has_room.ensures)

pub returns-in_err-public_values : goal.returns-in_err-public_values
unfolding front_refusals
returns-in_err-public_values c =
    past_3 _ _ _ _ c.requires c.in_ok-sound.ensures c.in_ok-has_room.ensures _ _
    (run_refused_by (no4 c.args.case.now ∷ no5 c.args.case.now ∷ []) _ _ _ c.in_err-public_values.ensures c.from_residual-in_err-public_values.ensures)

pub is_anchored-requires : goal.is_anchored-requires
is_anchored-requires c =
    let a = c.args in
    let s = undamaged a.table.now a.roll.now (bare a.counts) (asked_sound a.table.now a.roll.now (bare a.counts) c.in_ok-sound.ensures) in
    within a.counts.anchors most_anchors (length a.roll.now) s.roll

pub returns-in_err-is_anchored : goal.returns-in_err-is_anchored
unfolding front_refusals
returns-in_err-is_anchored c =
    past_5 _ _ _ _ c.requires c.in_ok-sound.ensures c.in_ok-has_room.ensures c.in_ok-public_values.ensures _ _
    (refused_by _ _ _ _ c.in_err-is_anchored.ensures c.from_residual-in_err-is_anchored.ensures)

pub returns-in_err-distinct : goal.returns-in_err-distinct
unfolding front_refusals numbered no6
returns-in_err-distinct c =
    past_5 _ _ _ _ c.requires c.in_ok-sound.ensures c.in_ok-has_room.ensures c.in_ok-public_values.ensures _ _ (passed_by _ _ _ refl c.in_ok-is_anchored.ensures
    (refused_by _ _ _ _ c.in_err-distinct.ensures c.from_residual-in_err-distinct.ensures))

pub are_unspent-requires : goal.are_unspent-requires
are_unspent-requires c =
    let a = c.args in
    let s = undamaged a.table.now a.roll.now (bare a.counts) (asked_sound a.table.now a.roll.now (bare a.counts) c.in_ok-sound.ensures) in
    record {
      nullifiers_in_bounds = within a.counts.nullifiers most_nullifiers (length a.table.now) s.fits;
      table_rises = s.rises;
    }

pub returns : goal.returns
unfolding front_refusals numbered no6 no7
returns c =
    past_5 _ _ _ _ c.requires c.in_ok-sound.ensures c.in_ok-has_room.ensures c.in_ok-public_values.ensures _ _ (passed_by _ _ _ refl c.in_ok-is_anchored.ensures
    (passed_by _ _ _ refl c.in_ok-distinct.ensures (c.are_unspent.ensures ∙ last_group _)))
