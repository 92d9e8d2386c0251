use mathlib.Core.Path.{refl, ◌∙◌}
use Prim.Native.Nat.{◌≤◌, ◌<◌}
use native.Mathlib.Omega.{arith}
use borrow.Author.Tests.{le-leb, lt-leb}
use lib.ListN.{length}
use Rattle.refusals.specs.Rules.{numbered}
use Rattle.refusals.proofs.RuleLaws.{refused_by, passed_by, last_group, one_holds, one_fails}
use Rattle.ledger.specs.Ledgers.{most_anchors, room_in, no2, close_refusals}
use Rattle.judge.proofs.closing.Goals as goal

pub returns-in_err-sound : goal.returns-in_err-sound
unfolding close_refusals
returns-in_err-sound c = refused_by _ _ _ _ c.in_err-sound.ensures c.from_residual.ensures

pub returns-then-room_in-counts : goal.returns-then-room_in-counts
unfolding close_refusals numbered no2
returns-then-room_in-counts c =
    let a = c.args in
    let h : room_in most_anchors (length a.roll.now) ≤ a.counts.anchors = omega arith in
    passed_by _ _ _ refl c.in_ok-sound.ensures (one_holds _ 3 0 (le-leb _ _ h) ∙ last_group _)

pub returns : goal.returns
unfolding close_refusals numbered no2
returns c =
    let a = c.args in
    let h : a.counts.anchors < room_in most_anchors (length a.roll.now) = omega arith in
    passed_by _ _ _ refl c.in_ok-sound.ensures (one_fails _ 3 0 (lt-leb _ _ h) ∙ last_group _)
