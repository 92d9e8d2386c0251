-- What all the rows leave is what those that are left make of what the rows so far have left.
use Rattle.std.proofs.Common.{◌+◌, ◌-◌, ◌*◌, sym, refl, ◌∙◌, arith}
use Rattle.replay.specs.Tape.{laid_by}
use Rattle.replay.proofs.TurnLaws.{rows_same, rows_turn, rows_none}
use Rattle.replay.proofs.lay_rows.Goals as goal

pub loop-i-init : goal.loop-i-init
loop-i-init c =
    let first = c.le32-first.result in
    (omega arith, refl, rows_same c.le32-rows.result (c.le32-rows.result - 0) (first * 32) ((first + 0) * 32) _ _ _ _ (omega arith) (omega arith))

pub overflow_add-first : goal.overflow_add-first
overflow_add-first c = omega arith

pub overflow_mul-first : goal.overflow_mul-first
overflow_mul-first c = omega arith

pub lay_row-requires : goal.lay_row-requires
lay_row-requires c = (c.requires, omega arith)

pub overflow_step-i : goal.overflow_step-i
overflow_step-i c = omega arith

pub loop-i-smaller : goal.loop-i-smaller
loop-i-smaller c = omega arith

pub loop-i-preserved : goal.loop-i-preserved
loop-i-preserved c =
    let i = c.loop-i.i in (
      omega arith,
      c.lay_row.auto.bytes ∙ c.loop-i.invariant.1,
      c.loop-i.invariant.2
          ∙ rows_turn (c.le32-rows.result - i) (c.le32-rows.result - (i + 1)) ((c.le32-first.result + i) * 32) ((c.le32-first.result + (i + 1)) * 32) c.loop-i.number
          _ c.le64-step.result _ c.loop-i.bytes c.lay_row.new.bytes (omega arith) (omega arith) refl c.lay_row.ensures,
    )

pub returns : goal.returns
unfolding laid_by
returns c =
    let none = rows_none (c.le32-rows.result - c.loop-i.i) ((c.le32-first.result + c.loop-i.i) * 32) c.loop-i.number c.le64-step.result _ c.loop-i.bytes (omega arith) in
    sym (rw (← c.le32-first.ensures, ← c.le32-rows.ensures, ← c.le64-step.ensures, ← c.le64-number.ensures) (c.loop-i.invariant.2 ∙ none))
