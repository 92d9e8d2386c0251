use Rattle.std.proofs.Common.{ℕ, ◌-◌, List, length, drop, sym, ◌∙◌, ap₂, le_of_eq, length-drop, length-take-le, take_all}
use lib.ListN.{length-replicate}
use Rattle.replay.specs.Tape.{desk_on}
use Rattle.replay.proofs.TurnLaws.{plays_as, plays_broken, taken_of, desk_short, desk_wide, desk_drafts}
use Rattle.replay.proofs.run_desk.Goals as goal

pub returns-then-body-lt4 : goal.returns-then-body-lt4
returns-then-body-lt4 c = plays_as (desk_short _ _ _ _ c.if-body-lt4.true) (plays_broken c.break_off.ensures.state_value c.break_off.ensures.wrote)

pub returns-then-n-gt4352 : goal.returns-then-n-gt4352
returns-then-n-gt4352 c = plays_as (desk_wide _ _ _ _ _ c.le32-n.ensures c.if-body-lt4.false c.if-n-gt4352.true) (plays_broken c.break_off-then-n-gt4352.ensures.state_value c.break_off-then-n-gt4352.ensures.wrote)

pub slice_bounds-run_draft-end-2 : goal.slice_bounds-run_draft-end-2
slice_bounds-run_draft-end-2 c = sym (length-take-le _ _ (rw (length-replicate {0} {A = ℕ} 4352 0xa5) c.if-n-gt4352.false))

pub returns : goal.returns
returns c =
    let a = c.args in
    let b = a.body.now in
    let e = ap₂ (λ (d f : List ℕ). desk_on d f a.table.now a.roll.now a.state) (take_all (length b - 4) (drop 4 b) (le_of_eq (length-drop 4 b))) (taken_of _ 4352 0xa5 c.if-n-gt4352.false) in
    plays_as (e ∙ desk_drafts _ _ _ _ _ c.le32-n.ensures c.if-body-lt4.false c.if-n-gt4352.false) c.run_draft.ensures
