-- The row looked for is above the one just before low and below the one at high, and the table rises: so it can stand only between, and once nothing is between, it goes to low.
-- The measure is not the rows between but the binary digits of their number. Each turn takes off one at least, which bounds the comparisons.
use mathlib.Core.Path.{◌≡◌, sym, ◌∙◌}
use mathlib.Core.List.{List, []}
use Prim.Native.Nat.{ℕ, suc, ◌+◌, ◌-◌, ◌/◌, ◌<◌, ◌≤◌}
use native.Mathlib.Omega.{arith}
use lib.ListN.{length, get_or}
use Rattle.std.specs.declared.cmp.Ordering.TheVariants.{Less, Equal, Greater}
use Rattle.std.specs.Prelude.{true, Ok, Err}
use Rattle.units.specs.declared.Row.{Row}
use Rattle.ledger.specs.Sorted.{rising, find}
use Rattle.ledger.specs.Rows.{byte_order}
use Rattle.ledger.proofs.ByteOrder.{byte_total}
use Rattle.ledger.proofs.Sorting.{find_at, find_gap}
use Rattle.judge.proofs.Spans.{half_is_shorter}
use Rattle.judge.proofs.table.search.Goals as goal

-- the row half way: at most half of the rows are left on either side of it
half_way : (low high : ℕ) → low < high
    → (low ≤ low + (high - low) / 2) × (low + (high - low) / 2 < high) × (low + (high - low) / 2 - low ≤ (high - low) / 2)
    × (high - (low + (high - low) / 2 + 1) ≤ (high - low) / 2)
half_way low high h = (omega arith, omega arith, omega arith, omega arith)

-- a row that is equal to the one looked for, and a place between two rows that are not
stands : (rows : List (List ℕ)) (x : List ℕ) (r : Row) (k : ℕ) → r.0 ≡ k → rising byte_order rows ≡ true → k < length rows
    → byte_order x (get_or rows k []) ≡ Equal → Ok r ≡ find byte_order x rows
stands rows x r k e rises used equal = sym (find_at byte_order byte_total x [] rows r.0 rises (rw e used) (rw e equal))

goes : (rows : List (List ℕ)) (x : List ℕ) (r : Row) (k : ℕ) → r.0 ≡ k → rising byte_order rows ≡ true → k ≤ length rows
    → ((j : ℕ) → suc j ≡ k → byte_order x (get_or rows j []) ≡ Greater) → (k < length rows → byte_order x (get_or rows k []) ≡ Less)
    → Err r ≡ find byte_order x rows
goes rows x r k e rises within above below = sym (find_gap byte_order byte_total x [] rows r.0 rises (rw e within) (rw e above) (rw e below))

pub bounds-rows-mid : goal.bounds-rows-mid
bounds-rows-mid c =
    let l = c.loop-low in
    let in_table = l.invariant.in_table in
    let below : l.low + (l.high - l.low) / 2 < l.high = (half_way l.low l.high c.loop-low-test.true).1 in
    omega arith

pub loop-low-smaller-in-Less : goal.loop-low-smaller-in-Less
loop-low-smaller-in-Less c =
    let l = c.loop-low in
    half_is_shorter _ _ (omega arith) (half_way l.low l.high c.loop-low-test.true).2

pub returns-in-Equal : goal.returns-in-Equal
returns-in-Equal c =
    let l = c.loop-low in
    let in_table = l.invariant.in_table in
    let below : l.low + (l.high - l.low) / 2 < l.high = (half_way l.low l.high c.loop-low-test.true).1 in
    stands c.args.rows.now c.args.row.now c.of.result (l.low + (l.high - l.low) / 2) c.of.ensures c.requires (omega arith) (sym c.compare.ensures ∙ c.in-Equal.is)

pub loop-low-smaller : goal.loop-low-smaller
loop-low-smaller c =
    let l = c.loop-low in
    half_is_shorter _ _ (omega arith) (half_way l.low l.high c.loop-low-test.true).3

pub returns : goal.returns
returns c =
    let l = c.loop-low in
    let same : l.high ≡ l.low = omega (arith, l.invariant.in_order) in
    let within : l.low ≤ length c.args.rows.now = omega (arith, l.invariant.in_table) in
    goes c.args.rows.now c.args.row.now c.of-2.result l.low c.of-2.ensures c.requires within l.invariant.above
    (λ h. let used : l.high < length c.args.rows.now = omega arith in rw same at (l.invariant.below used))
