-- The ledger's refusals are asked in their order, and the answer in hand is looked at before each: what stops is the lower of the two (`own_stops`,
-- `group_stops`), and what passes leaves the rest to decide (`group_passes`).
use mathlib.Core.Path.{◌≡◌, refl}
use mathlib.Core.Bool.{true}
use mathlib.Core.List.{List, [], ◌∷◌}
use Prim.Native.Nat.{ℕ}
use lib.ListN.{length}
use Rattle.refusals.specs.Rules.{Rule, rules_in, numbered}
use Rattle.refusals.proofs.TwoTables.{all_from, all_up_to}
use Rattle.casefile.specs.Fields.{anchor_of, nullifier_of}
use Rattle.ledger.specs.declared.Ledger.{Ledger}
use Rattle.ledger.specs.Ledgers.{most_nullifiers, most_anchors, no2, no3, no6, no8, no17, ledger_refusals}
use Rattle.ledger.proofs.Soundness.{undamaged, within}
use Rattle.ledgerbytes.specs.LedgerBytes.{bare}
use Rattle.judge.proofs.Halves.{pool_refusals}
use Rattle.judge.proofs.Weighing.{own_stops, group_stops, group_passes, own_stays, asked_sound}
use Rattle.judge.proofs.asking.lower_than.Goals as goal

-- what is left of the ledger's table at each look, and that its numbers are not below that of the look
module _ (c t r : List ℕ) (l : Ledger) where
  abbrev from17 : List (List Rule)
  from17 = pool_refusals c l ∷ []

  abbrev from8 : List (List Rule)
  from8 = no8 t l (nullifier_of 1 c) (nullifier_of 2 c) ∷ from17

  abbrev from6 : List (List Rule)
  from6 = no6 r l (anchor_of c) ∷ from8

  abbrev from3 : List (List Rule)
  from3 = no3 t l ∷ from6

  abbrev from2 : List (List Rule)
  from2 = no2 t r l ∷ from3

  all_2 : all_from 2 (rules_in from2) ≡ true
  unfolding rules_in all_from no2 no3 no6 no8 no17
  all_2 = refl

  all_3 : all_from 3 (rules_in from3) ≡ true
  unfolding rules_in all_from no3 no6 no8 no17
  all_3 = refl

  all_6 : all_from 6 (rules_in from6) ≡ true
  unfolding rules_in all_from no6 no8 no17
  all_6 = refl

  all_8 : all_from 8 (rules_in from8) ≡ true
  unfolding rules_in all_from no8 no17
  all_8 = refl

  all_17 : all_from 17 (rules_in from17) ≡ true
  unfolding rules_in all_from no17
  all_17 = refl

pub returns-in_err-unless : goal.returns-in_err-unless
unfolding ledger_refusals
returns-in_err-unless c =
    own_stops _ 2 _ _ (from2 c.args.case.now c.args.table.now c.args.roll.now (bare c.args.counts)) (all_2 c.args.case.now c.args.table.now c.args.roll.now (bare c.args.counts)) c.in_err-unless.ensures c.from_residual.ensures

pub returns-in_err-sound : goal.returns-in_err-sound
unfolding ledger_refusals all_up_to no2
returns-in_err-sound c =
    group_stops _ 2 _ _ _ _ _ refl c.in_ok-unless.ensures c.in_err-sound.ensures c.from_residual-in_err-sound.ensures

pub returns-in_err-unless-2 : goal.returns-in_err-unless-2
unfolding ledger_refusals numbered no2
returns-in_err-unless-2 c =
    group_passes _ _ _ _ refl c.in_ok-sound.ensures (own_stops _ 3 _ _ (from3 c.args.case.now c.args.table.now c.args.roll.now (bare c.args.counts)) (all_3 c.args.case.now c.args.table.now c.args.roll.now (bare c.args.counts)) c.in_err-unless-2.ensures c.from_residual-in_err-unless-2.ensures)

pub returns-in_err-has_room : goal.returns-in_err-has_room
unfolding ledger_refusals all_up_to numbered no2 no3
returns-in_err-has_room c =
    group_passes _ _ _ _ refl c.in_ok-sound.ensures (group_stops _ 3 _ _ _ _ _ refl c.in_ok-unless-2.ensures c.in_err-has_room.ensures c.from_residual-in_err-has_room.ensures)

pub returns-in_err-unless-3 : goal.returns-in_err-unless-3
unfolding ledger_refusals numbered no2 no3
returns-in_err-unless-3 c =
    group_passes _ _ _ _ refl c.in_ok-sound.ensures (group_passes _ _ _ _ refl c.in_ok-has_room.ensures (own_stops _ 6 _ _ (from6 c.args.case.now c.args.table.now c.args.roll.now (bare c.args.counts)) (all_6 c.args.case.now c.args.table.now c.args.roll.now (bare c.args.counts)) c.in_err-unless-3.ensures c.from_residual-in_err-unless-3.ensures))

pub is_anchored-requires : goal.is_anchored-requires
is_anchored-requires c =
    let a = c.args in
    let s = undamaged a.table.now a.roll.now (bare a.counts) (asked_sound a.table.now a.roll.now (bare a.counts) c.in_ok-sound.ensures) in
    within a.counts.anchors most_anchors (length a.roll.now) s.roll

pub returns-in_err-is_anchored : goal.returns-in_err-is_anchored
unfolding ledger_refusals all_up_to numbered no2 no3 no6
returns-in_err-is_anchored c =
    group_passes _ _ _ _ refl c.in_ok-sound.ensures (group_passes _ _ _ _ refl c.in_ok-has_room.ensures (group_stops _ 6 _ _ _ _ _ refl c.in_ok-unless-3.ensures c.in_err-is_anchored.ensures c.from_residual-in_err-is_anchored.ensures))

pub returns-in_err-unless-4 : goal.returns-in_err-unless-4
unfolding ledger_refusals numbered no2 no3 no6
returns-in_err-unless-4 c =
    group_passes _ _ _ _ refl c.in_ok-sound.ensures (group_passes _ _ _ _ refl c.in_ok-has_room.ensures (group_passes _ _ _ _ refl c.in_ok-is_anchored.ensures (own_stops _ 8 _ _ (from8 c.args.case.now c.args.table.now c.args.roll.now (bare c.args.counts)) (all_8 c.args.case.now c.args.table.now c.args.roll.now (bare c.args.counts)) c.in_err-unless-4.ensures c.from_residual-in_err-unless-4.ensures)))

pub are_unspent-requires : goal.are_unspent-requires
are_unspent-requires c =
    let a = c.args in
    let s = undamaged a.table.now a.roll.now (bare a.counts) (asked_sound a.table.now a.roll.now (bare a.counts) c.in_ok-sound.ensures) in
    record {
      nullifiers_in_bounds = within a.counts.nullifiers most_nullifiers (length a.table.now) s.fits;
      table_rises = s.rises;
    }

pub returns-in_err-are_unspent : goal.returns-in_err-are_unspent
unfolding ledger_refusals all_up_to numbered no2 no3 no6 no8
returns-in_err-are_unspent c =
    group_passes _ _ _ _ refl c.in_ok-sound.ensures (group_passes _ _ _ _ refl c.in_ok-has_room.ensures (group_passes _ _ _ _ refl c.in_ok-is_anchored.ensures (group_stops _ 8 _ _ _ _ _ refl c.in_ok-unless-4.ensures c.in_err-are_unspent.ensures c.from_residual-in_err-are_unspent.ensures)))

pub returns-in_err-unless-5 : goal.returns-in_err-unless-5
unfolding ledger_refusals numbered no2 no3 no6 no8
returns-in_err-unless-5 c =
    group_passes _ _ _ _ refl c.in_ok-sound.ensures (group_passes _ _ _ _ refl c.in_ok-has_room.ensures (group_passes _ _ _ _ refl c.in_ok-is_anchored.ensures (group_passes _ _ _ _ refl c.in_ok-are_unspent.ensures (own_stops _ 17 _ _ (from17 c.args.case.now c.args.table.now c.args.roll.now (bare c.args.counts)) (all_17 c.args.case.now c.args.table.now c.args.roll.now (bare c.args.counts)) c.in_err-unless-5.ensures c.from_residual-in_err-unless-5.ensures))))

pub returns-in_err-stays_within : goal.returns-in_err-stays_within
unfolding ledger_refusals all_up_to numbered no2 no3 no6 no8 no17
returns-in_err-stays_within c =
    group_passes _ _ _ _ refl c.in_ok-sound.ensures (group_passes _ _ _ _ refl c.in_ok-has_room.ensures (group_passes _ _ _ _ refl c.in_ok-is_anchored.ensures (group_passes _ _ _ _ refl c.in_ok-are_unspent.ensures (group_stops _ 17 _ _ _ _ _ refl c.in_ok-unless-5.ensures c.in_err-stays_within.ensures c.from_residual-in_err-stays_within.ensures))))

pub returns : goal.returns
unfolding ledger_refusals numbered no2 no3 no6 no8 no17
returns c =
    group_passes _ _ _ _ refl c.in_ok-sound.ensures (group_passes _ _ _ _ refl c.in_ok-has_room.ensures (group_passes _ _ _ _ refl c.in_ok-is_anchored.ensures (group_passes _ _ _ _ refl c.in_ok-are_unspent.ensures (group_passes _ _ _ _ refl c.in_ok-stays_within.ensures (own_stays _)))))
