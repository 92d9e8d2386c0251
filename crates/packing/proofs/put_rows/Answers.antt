-- After i turns the rows of the first i cases are on the page, and start is where the next case starts: behind these.
use Rattle.std.proofs.Common.{◌≡◌, ℕ, ◌+◌, ◌^◌, ◌<◌, ◌++◌, sym, ap, ◌∙◌, ap₂, add-zero, arith}
use Rattle.text.proofs.PenLaws.{start, then, text_as}
use Rattle.packing.specs.Words.{word}
use Rattle.packing.specs.Decimals.{length_of}
use Rattle.packing.specs.Bags.{row, rows_from}
use Rattle.packing.specs.Packing.{sizes_from, sum}
use Rattle.packing.proofs.DecimalLaws.{length_below, length_or_0}
use Rattle.packing.proofs.SizeLaws.{total_more, case_rows_more}
use Rattle.packing.proofs.put_rows.Goals as goal

pub loop-i-init : goal.loop-i-init
unfolding sizes_from sum rows_from
loop-i-init c = record { below = omega (arith, c.requires.first_bound); next = sym (add-zero _); wrote = start _ }

pub overflow_add-start : goal.overflow_add-start
overflow_add-start c = let below : c.unwrap_or-size.result < 10 ^ 15 = rw (c.unwrap_or-size.ensures, c.length_in.ensures, length_or_0 c.word.result.now) (length_below _) in omega (arith, c.loop-i.invariant.below, c.requires.n_bound)

pub loop-i-preserved : goal.loop-i-preserved
loop-i-preserved c =
    let a = c.args in
    let v = c.loop-i.invariant in
    let i = c.loop-i.i in
    let line = a.line.now in
    let size : c.unwrap_or-size.result ≡ length_of (word (a.k + i) line) = c.unwrap_or-size.ensures ∙ rw c.length_in.ensures (length_or_0 c.word.result.now) ∙ ap length_of c.word.ensures in
    let below : c.unwrap_or-size.result < 10 ^ 15 = rw (c.unwrap_or-size.ensures, c.length_in.ensures, length_or_0 c.word.result.now) (length_below _) in
    let rows = rows_from 1 a.first (sizes_from i a.k line) in record {
      below = omega (arith, v.below, below);
      next = omega (arith, size, v.next, total_more i a.k line);
      wrote = text_as (omega arith) (ap₂ (λ (x y : ℕ). rows ++ row 2 x y) v.next size ∙ sym (case_rows_more i a.k line a.first)) (then v.wrote c.put_row.ensures);
    }

pub returns : goal.returns
returns c =
    let a = c.args in
    let e : c.loop-i.i ≡ a.n = omega arith in
    text_as (omega (arith, c.requires.n_bound)) (ap (λ (i : ℕ). rows_from 1 a.first (sizes_from i a.k a.line.now)) e) c.loop-i.invariant.wrote
