use Rattle.std.proofs.Common.{ℕ, ◌+◌, List, take, drop, ap, ◌∙◌, arith}
use Rattle.octets.specs.Parts.{pasted}
use Rattle.replay.specs.Tape.{row_laid}
use Rattle.replay.proofs.lay_row.Goals as goal

pub overflow_add-at : goal.overflow_add-at
overflow_add-at c = omega arith

pub slice_bounds-copy_in-count : goal.slice_bounds-copy_in-count
slice_bounds-copy_in-count c = omega arith

pub slice_bounds-copy_in-start : goal.slice_bounds-copy_in-start
slice_bounds-copy_in-start c = omega arith

pub slice_bounds-copy_in-end-2 : goal.slice_bounds-copy_in-end-2
slice_bounds-copy_in-end-2 c = omega arith

pub returns : goal.returns
unfolding row_laid
returns c =
    let a = c.args in
    c.copy_in-2.ensures.dst_after
    ∙ ap (pasted (a.at + 8) (take 24 (drop 24 a.body.now))) (c.copy_in.ensures.dst_after ∙ ap (λ (s : List ℕ). pasted a.at s a.bytes.now) c.be_bytes64-high.ensures)
