-- The table rises exactly when the rows that are left do. First words hand that on up to a row, and that row and the one after it are compared in full: a pair that does not rise says no, and with no pair left the answer is yes.
use mathlib.Core.Path.{◌≡◌, refl, sym, ap, ◌∙◌}
use mathlib.Core.Bool.{Bool, true, false, ◌&&◌}
use mathlib.Core.List.{List, []}
use Prim.Native.Nat.{ℕ, ◌-◌, ◌<◌, ◌≤◌}
use native.Mathlib.Omega.{arith}
use lib.ListN.{length, get_or, take, drop, length-drop}
use lib.Seq.{take_all}
use Rattle.std.specs.declared.cmp.Ordering.{Ordering}
use Rattle.std.specs.declared.cmp.Ordering.TheVariants.{Less, Equal, Greater}
use Rattle.std.specs.Ordering.{is_lt, is_ge}
use Rattle.ledger.specs.Sorted.{rising}
use Rattle.ledger.specs.Rows.{byte_order}
use Rattle.ledger.proofs.ByteOrder.{byte_total}
use Rattle.ledger.proofs.Sorting.{rising_step, rising_end}
use Rattle.judge.proofs.table.is_rising.Goals as goal
use Rattle.judge.proofs.table.is_rising.Goals.{else-rest-gt1-via-then-rest-gt1+else-is_ge, else-rest-gt1-via-else-rest-gt1}

-- the first row and the one after it
pair : (rows : List (List ℕ)) (o : Ordering) → 1 < length rows → o ≡ byte_order (get_or rows 0 []) (get_or rows 1 []) → rising byte_order rows ≡ (is_lt o && rising byte_order (drop 1 rows))
pair rows o h told = rising_step byte_order byte_total [] rows 0 h ∙ ap (λ (p : Ordering). is_lt p && rising byte_order (drop 1 rows)) (sym told)

falls : (o : Ordering) (b : Bool) → is_ge o ≡ true → (is_lt o && b) ≡ false
falls Less b h = cc
falls Equal b h = refl
falls Greater b h = refl

climbs : (o : Ordering) (b : Bool) → is_ge o ≡ false → (is_lt o && b) ≡ b
climbs Less b h = refl
climbs Equal b h = cc
climbs Greater b h = cc

-- with at most one row the rows rise
ended : (rows : List (List ℕ)) → length rows ≤ 1 → rising byte_order rows ≡ true
ended rows h = rising_end byte_order byte_total rows 0 h

-- what is left behind the first row
behind : (rows : List (List ℕ)) → 0 < length rows → take (length rows - 1) (drop 1 rows) ≡ drop 1 rows
behind rows h = take_all (length rows - 1) (drop 1 rows) (omega (arith, length-drop 1 rows))

pub returns-then-is_ge : goal.returns-then-is_ge
returns-then-is_ge c =
    let rows = c.rises_to-rest.result.now in
    let o = c.compare.result in
    sym
    (c.loop-rest.invariant ∙ sym c.rises_to-rest.ensures.rises ∙ pair rows o c.if-rest-gt1.true c.compare.ensures
    ∙ falls o (rising byte_order (drop 1 rows)) (sym c.is_ge.ensures ∙ c.if-is_ge.true))

pub loop-rest-preserved : goal.loop-rest-preserved
loop-rest-preserved c =
    let rows = c.rises_to-rest.result.now in
    let e = c.rises_to-rest.ensures in
    let long = length-drop 1 rows in
    let so_far = c.loop-rest.invariant ∙ sym e.rises in
    rw (behind rows e.some_left)
    (elim c.else-rest-gt1.branch [
      | else-rest-gt1-via-then-rest-gt1+else-is_ge w ↦
          so_far ∙ pair rows w.compare.result w.if-rest-gt1.true w.compare.ensures
          ∙ climbs w.compare.result (rising byte_order (drop 1 rows)) (sym w.is_ge.ensures ∙ w.if-is_ge.false)
      | else-rest-gt1-via-else-rest-gt1 w ↦ so_far ∙ ended rows w.if-rest-gt1.false ∙ sym (ended (drop 1 rows) (omega arith))
    ])

pub returns : goal.returns
returns c = sym (c.loop-rest.invariant ∙ ended c.loop-rest.rest.now c.loop-rest-test.false)
