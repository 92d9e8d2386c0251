-- After i turns the lines of the first i rows are on the page; the pieces of 32 bytes that the loop goes over are the rows, n of them.
use Rattle.std.proofs.Common.{◌≡◌, ℕ, zero, suc, ◌+◌, ◌*◌, ◌/◌, ◌≤◌, List, [], ◌∷◌, length, take, drop, refl, ap, ap₂, ◌∙◌, arith, take_all, take-take, length-take-le}
use Rattle.std.proofs.lemmas.List.{drop-take}
use Rattle.std.specs.Simd.{first_chunks}
use mathlib.Core.List.{flat_map}
use Rattle.octets.specs.Rows.{rows_of}
use Rattle.text.proofs.PenLaws.{start, one_more, text_as}
use Rattle.replay.specs.Looks.{row_line, row_lines}
use Rattle.replay.proofs.put_rows.Goals as goal

pieces_are_rows : (n : ℕ) (t : List ℕ) → first_chunks 32 n (take (n * 32) t) ≡ rows_of n t
unfolding rows_of
pieces_are_rows zero t = refl
pieces_are_rows (suc n) t =
    let e : suc n * 32 ≡ 32 + n * 32 = omega arith in
    let rest = ap (λ (k : ℕ). drop 32 (take k t)) e ∙ drop-take 32 (n * 32) t in
    ap₂ (λ (r : List ℕ) (rs : List (List ℕ)). r ∷ rs) (take-take 32 (suc n * 32) t (omega arith)) (ap (first_chunks 32 n) rest ∙ pieces_are_rows n (drop 32 t))

cut_are_rows : (n : ℕ) (t : List ℕ) → n * 32 ≤ length t → first_chunks 32 (length (take (n * 32) t) / 32) (take (n * 32) t) ≡ rows_of n t
cut_are_rows n t h =
    let len = length-take-le (n * 32) t h in
    let e : length (take (n * 32) t) / 32 ≡ n = omega (arith, len) in
    ap (λ (k : ℕ). first_chunks 32 k (take (n * 32) t)) e ∙ pieces_are_rows n t

pub loop-row-init : goal.loop-row-init
unfolding flat_map
loop-row-init c = text_as (omega arith) refl (start _)

pub loop-row-preserved : goal.loop-row-preserved
loop-row-preserved c =
    one_more (row_line c.args.word.now) c.as_chunks.result.0.now c.loop-row.row-index [] c.loop-row-test.true c.loop-row.invariant c.put_row.ensures

pub returns : goal.returns
unfolding row_lines
returns c =
    let n = c.args.n in
    let w = c.args.word.now in
    let i = c.loop-row.row-index in
    let rows = c.as_chunks.ensures.front ∙ cut_are_rows n c.args.bytes.now c.requires in
    let e : i ≡ n = omega (arith, c.as_chunks.ensures.front_len, length-take-le (n * 32) c.args.bytes.now c.requires) in
    let all = take_all i c.as_chunks.result.0.now c.loop-row-test.false ∙ rows in
    text_as (omega (arith, ap (λ (k : ℕ). (length w + 65) * k) e)) (ap (flat_map (row_line w)) all) c.loop-row.invariant
