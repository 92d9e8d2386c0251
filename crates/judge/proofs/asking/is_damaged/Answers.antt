-- Each early return is one condition of the list of damages, which holds there; at the last return the six before it were seen not to hold, so that damage is exactly that the used rows do not rise.
use mathlib.Core.Path.{◌≡◌, sym, ap, ◌∙◌}
use Prim.Native.Nat.{◌%◌, ◌≤◌, ◌<◌}
use mathlib.Core.Bool.{true, false, not, or-false}
use lib.Dec.{eqb, ltb, leb}
use lib.ListN.{length}
use native.Mathlib.Omega.{arith}
use borrow.Author.Tests.{eq-eqb, ne_eqb, lt-ltb, le-ltb, leb-true, leb-false, not-true, not-false}
use Rattle.units.specs.Limits.{max_money}
use Rattle.ledger.specs.Sorted.{rising}
use Rattle.ledger.specs.Rows.{byte_order}
use Rattle.ledger.specs.Ledgers.{most_nullifiers, most_anchors, room_in, spent_rows, some, damage, damaged}
use Rattle.ledger.proofs.Soundness.{some_at, within}
use Rattle.ledgerbytes.specs.LedgerBytes.{bare}
use Rattle.judge.proofs.asking.is_damaged.Goals as goal

pub returns-then-n-ne0 : goal.returns-then-n-ne0
unfolding damaged damage
returns-then-n-ne0 c =
    let a = c.args in
    let e : eqb (a.counts.nullifiers % 2) 0 ≡ false = ne_eqb (a.counts.nullifiers % 2) 0 c.if-n-ne0.true in
    some_at (damage a.table.now a.roll.now (bare a.counts)) 0 (ap not e)

pub returns-then-room_in-n : goal.returns-then-room_in-n
unfolding damaged damage
returns-then-room_in-n c =
    let a = c.args in
    let h : room_in most_nullifiers (length a.table.now) < a.counts.nullifiers = omega arith in
    some_at (damage a.table.now a.roll.now (bare a.counts)) 1 (lt-ltb _ _ h)

pub returns-then-counts-n : goal.returns-then-counts-n
unfolding damaged damage
returns-then-counts-n c =
    let a = c.args in
    let e : eqb a.counts.leaves a.counts.nullifiers ≡ false = ne_eqb a.counts.leaves a.counts.nullifiers c.if-counts-n.true in
    some_at (damage a.table.now a.roll.now (bare a.counts)) 3 (ap not e)

pub returns-then-a-eq0 : goal.returns-then-a-eq0
unfolding damaged damage
returns-then-a-eq0 c =
    let a = c.args in
    some_at (damage a.table.now a.roll.now (bare a.counts)) 4 (eq-eqb a.counts.anchors 0 c.if-a-eq0.true)

pub returns-then-room_in-a : goal.returns-then-room_in-a
unfolding damaged damage
returns-then-room_in-a c =
    let a = c.args in
    let h : room_in most_anchors (length a.roll.now) < a.counts.anchors = omega arith in
    some_at (damage a.table.now a.roll.now (bare a.counts)) 5 (lt-ltb _ _ h)

pub returns-then-not-is_money : goal.returns-then-not-is_money
unfolding damaged damage
returns-then-not-is_money c =
    let a = c.args in
    let above : leb a.counts.pool.0 max_money ≡ false = sym c.is_money.ensures ∙ not-true _ (ap not c.if-not-is_money.true) in
    some_at (damage a.table.now a.roll.now (bare a.counts)) 6 (lt-ltb max_money a.counts.pool.0 (leb-false a.counts.pool.0 max_money above))

pub rows_in-requires : goal.rows_in-requires
rows_in-requires c =
    let fits : let a = c.args in a.counts.nullifiers ≤ room_in most_nullifiers (length a.table.now) = omega arith in
    let a = c.args in
    within a.counts.nullifiers most_nullifiers (length a.table.now) (fits)

pub returns : goal.returns
unfolding damaged damage some spent_rows
returns c =
    let fits : let a = c.args in a.counts.nullifiers ≤ room_in most_nullifiers (length a.table.now) = omega arith in
    let a = c.args in
    let l = bare a.counts in
    let even : eqb (l.nullifiers % 2) 0 ≡ true = eq-eqb (l.nullifiers % 2) 0 (omega arith) in
    let roomy : ltb (room_in most_nullifiers (length a.table.now)) l.nullifiers ≡ false = le-ltb _ _ (fits) in
    let leaves : eqb l.tree.leaves l.nullifiers ≡ true = eq-eqb l.tree.leaves l.nullifiers (omega arith) in
    let some-anchor : eqb l.anchors 0 ≡ false = ne_eqb l.anchors 0 c.if-a-eq0.false in
    let h : l.anchors ≤ room_in most_anchors (length a.roll.now) = omega arith in
    let on-roll : ltb (room_in most_anchors (length a.roll.now)) l.anchors ≡ false = le-ltb _ _ h in
    let money : leb l.pool.0 max_money ≡ true = sym c.is_money.ensures ∙ not-false _ (ap not c.if-not-is_money.false) in
    let within-money : ltb max_money l.pool.0 ≡ false = le-ltb max_money l.pool.0 (leb-true l.pool.0 max_money money) in
    ap not (c.is_rising.ensures ∙ ap (rising byte_order) c.rows_in.ensures.rows) ∙ rw (even, roomy, leaves, some-anchor, on-roll, within-money) (sym (or-false _))
