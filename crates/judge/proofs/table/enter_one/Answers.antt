-- The place that the search gives is the definition's and not past the used rows, so the rows from there on can be moved by one and the new one pasted in; the law `put_row` says that this is entering.
use mathlib.Core.Path.{◌≡◌, sym, ap, ap₂, ◌∙◌}
use mathlib.Core.List.{List}
use Prim.Native.Nat.{ℕ, ◌+◌, ◌-◌, ◌*◌, ◌≤◌}
use native.Mathlib.Omega.{arith}
use borrow.Rule.Slice.PartMut.{put_mid}
use lib.ListN.{length}
use lib.Seq.{drop-drop}
use Rattle.octets.specs.Parts.{pasted}
use Rattle.octets.proofs.PartLaws.{pasted_is}
use Rattle.octets.specs.Rows.{rows_of}
use Rattle.octets.proofs.RowLaws.{rows_length}
use Rattle.units.specs.declared.Row.{Row}
use Rattle.ledger.specs.Sorted.{Found, place_of, find}
use Rattle.ledger.specs.Rows.{byte_order, shifted}
use Rattle.ledger.proofs.ByteOrder.{byte_total}
use Rattle.ledger.proofs.Sorting.{place_le}
use Rattle.ledger.proofs.RowLaws.{put_row}
use Rattle.judge.proofs.table.enter_one.Goals as goal

-- the place is that of the definition, and one of the used rows or right past them
placed : (x t : List ℕ) (n : ℕ) (f : Found) (r : Row) (rows : List (List ℕ)) → r.0 ≡ place_of f → rows ≡ rows_of n t → f ≡ find byte_order x rows
    → (r.0 ≡ place_of (find byte_order x (rows_of n t))) × (r.0 ≤ n)
placed x t n f r rows e all found =
    let p = e ∙ ap place_of (found ∙ ap (find byte_order x) all) in
    (p, omega (arith, p, place_le byte_order byte_total x (rows_of n t), rows_length n t))

-- a row written into the part from index i on
written : (t x u : List ℕ) (i : ℕ) → u ≡ x → length x ≡ 32 → i + 32 ≤ length t → put_mid i (i + 32 - i) t u ≡ pasted i x t
written t x u i e long room =
    let k : i + 32 - i ≡ 32 = omega arith in
    rw (e, k, drop-drop 32 i t) (sym (pasted_is i x t (omega arith) ∙ rw long))

pub start_of-at-requires : goal.start_of-at-requires
start_of-at-requires c =
    let a = c.args in
    omega (arith, (placed a.row.now a.table.now a.count c.search.result c.place.result c.rows_in.result.now c.place.ensures c.rows_in.ensures.rows c.search.ensures).1)

pub shift-requires : goal.shift-requires
shift-requires c =
    let a = c.args in
    let within = (placed a.row.now a.table.now a.count c.search.result c.place.result c.rows_in.result.now c.place.ensures c.rows_in.ensures.rows c.search.ensures).1 in
    record { in_order = omega (arith, within); room = omega arith }

pub overflow_add-at : goal.overflow_add-at
overflow_add-at c =
    let a = c.args in
    let within = (placed a.row.now a.table.now a.count c.search.result c.place.result c.rows_in.result.now c.place.ensures c.rows_in.ensures.rows c.search.ensures).1 in
    omega (arith, within)

pub slice_bounds-copy_from_slice-end : goal.slice_bounds-copy_from_slice-end
slice_bounds-copy_from_slice-end c =
    let a = c.args in
    let within = (placed a.row.now a.table.now a.count c.search.result c.place.result c.rows_in.result.now c.place.ensures c.rows_in.ensures.rows c.search.ensures).1 in
    omega (arith, within)

pub returns-clause-table_after : goal.returns-clause-table_after
returns-clause-table_after c =
    let a = c.args in
    let i = c.start_of-at.result in
    let where_to = placed a.row.now a.table.now a.count c.search.result c.place.result c.rows_in.result.now c.place.ensures c.rows_in.ensures.rows c.search.ensures in
    written c.shift.new.table a.row.now c.copy_from_slice.new.self i c.copy_from_slice.ensures.after c.told-row (omega (arith, where_to.1))
    ∙ ap₂ (λ (at : ℕ) (t : List ℕ). pasted at a.row.now t) c.start_of-at.ensures
    (c.shift.ensures ∙ ap (λ (i : ℕ). shifted a.table.now i (a.count * 32)) c.start_of-at.ensures)
    ∙ put_row a.count c.place.result.0 a.table.now a.row.now c.requires.count_in_bounds c.told-row where_to.0 c.requires.row_is_new
