-- Where the two lengths of the entry can be lent, the two fills leave the planted bytes in the lent parts and the rest as it was, and the ledger is read from the entry; where not, the tape is broken.
use Rattle.std.proofs.Common.{◌≡◌, ℕ, Bool, eqb, sym, ◌∙◌, length-take-le}
use lib.Seq.{length_front}
use Rattle.replay.proofs.TurnLaws.{plays_as, plays_broken, lent_table, lent_roll, lends_by, plant_plays}
use Rattle.replay.specs.Tape.{can_lend, plant_length, plant_turn}
use Rattle.replay.proofs.run_plant.Goals as goal

-- what is lent by the length that was worked out
by_length : (len n m table roll : ℕ) (given : Bool) {k : ℕ} → k ≡ plant_length given n m
    → can_lend (eqb len k) n m table roll ≡ can_lend (eqb len (plant_length given n m)) n m table roll
by_length len n m table roll given e = rw e

pub slice_bounds-fill-end : goal.slice_bounds-fill-end
slice_bounds-fill-end c = lent_table _ _ _ _ _ c.can_lend.ensures c.if-can_lend.true

pub slice_bounds-fill-end-then-can_lend : goal.slice_bounds-fill-end-then-can_lend
slice_bounds-fill-end-then-can_lend c = sym (length-take-le _ _ (lent_table _ _ _ _ _ c.can_lend.ensures c.if-can_lend.true))

pub slice_bounds-fill-end-then-can_lend-2 : goal.slice_bounds-fill-end-then-can_lend-2
slice_bounds-fill-end-then-can_lend-2 c = lent_roll _ _ _ _ _ c.can_lend.ensures c.if-can_lend.true

pub slice_bounds-fill-end-then-can_lend-3 : goal.slice_bounds-fill-end-then-can_lend-3
slice_bounds-fill-end-then-can_lend-3 c = sym (length-take-le _ _ (lent_roll _ _ _ _ _ c.can_lend.ensures c.if-can_lend.true))

pub shape_of-table-then-can_lend : goal.shape_of-table-then-can_lend
shape_of-table-then-can_lend c = length_front {A = ℕ} c.args.table.now c.fill.new.dst c.le32-n.result c.fill.auto.dst

pub returns-then-can_lend : goal.returns-then-can_lend
returns-then-can_lend c =
    plant_plays _ _ _ _ _ _ _ _ _ _ _ _ _ _ c.le32-n.ensures c.le32-m.ensures (c.can_lend.ensures ∙ by_length _ _ _ _ _ _ c.plant_length.ensures) c.if-can_lend.true c.fill.ensures
    c.fill-then-can_lend.ensures c.accepted.ensures c.read.ensures c.put_answer_line.ensures c.going_on.ensures

pub returns : goal.returns
unfolding plant_turn
returns c = plays_as (lends_by _ _ _ _ c.le32-n.ensures c.le32-m.ensures (c.can_lend.ensures ∙ by_length _ _ _ _ _ _ c.plant_length.ensures) c.if-can_lend.false) (plays_broken c.break_off.ensures.state_value c.break_off.ensures.wrote)
