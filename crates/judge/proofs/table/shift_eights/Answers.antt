-- The index falls by eight rows: the bytes from there up to the end are moved and those below are still as they were; a turn moves four rows and the four below them, and by the law `shifted_more` that is one move of all.
use mathlib.Core.Path.{◌≡◌, refl, ap₂, ◌∙◌}
use mathlib.Core.List.{List}
use Prim.Native.Nat.{ℕ, ◌+◌, ◌-◌, ◌≤◌}
use native.Mathlib.Omega.{arith}
use lib.ListN.{length}
use Rattle.ledger.specs.Rows.{shifted}
use Rattle.ledger.proofs.RowLaws.{shifted_none, shifted_more}
use Rattle.judge.proofs.table.shift_eights.Goals as goal

-- rows moved below those that were moved before
moved : (t u v : List ℕ) (j i k high : ℕ) → k ≡ i → j ≤ i → i ≤ high → high + 32 ≤ length t → u ≡ shifted t i high → v ≡ shifted u j k → v ≡ shifted t j high
moved t u v j i k high e low below room made more = more ∙ ap₂ (λ (s : List ℕ) (m : ℕ). shifted s j m) made e ∙ shifted_more t j i high low below room

pub loop-at-init : goal.loop-at-init
loop-at-init c =
    let a = c.args in
    record { not_below = c.requires.in_order; not_above = omega arith; moved = shifted_none a.table.now a.high; as_long = refl }

pub loop-at-preserved : goal.loop-at-preserved
loop-at-preserved c =
    let a = c.args in
    let t = a.table.now in
    let at = c.loop-at.at in
    let l = c.loop-at.invariant in
    let upper = moved t c.loop-at.table c.shift_four.new.table (at - 256 + 128) at (at - 256 + 128 + 128) a.high (omega arith) (omega arith) l.not_above (omega arith) l.moved c.shift_four.ensures in
    record {
      not_below = omega arith;
      not_above = omega arith;
      moved = moved t c.shift_four.new.table c.shift_four-in-loop-at.new.table (at - 256) (at - 256 + 128) (at - 256 + 128) a.high refl (omega arith) (omega arith) (omega arith) upper c.shift_four-in-loop-at.ensures;
      as_long = c.shift_four-in-loop-at.auto.table ∙ c.shift_four.auto.table ∙ l.as_long;
    }
