use Rattle.std.proofs.Common.{◌≤◌, length, sym, ◌∙◌}
use Rattle.packing.proofs.DecimalLaws.{negative_some, unsigned_negative, unsigned_other}
use Rattle.packing.proofs.WordLaws.{rest_of}
use Rattle.packing.proofs.unsigned.Goals as goal
use Rattle.packing.proofs.unsigned.Goals.{Then-is_negative}

-- a minus is a byte
some : (c : Then-is_negative) → 1 ≤ length c.args.w.now
some c = negative_some _ (sym c.is_negative.ensures ∙ c.if-is_negative.true)

pub slice_bounds-result-count : goal.slice_bounds-result-count
slice_bounds-result-count c = some c

pub slice_bounds-result-start : goal.slice_bounds-result-start
slice_bounds-result-start c = some c

pub returns-then-is_negative : goal.returns-then-is_negative
returns-then-is_negative c =
    let w = c.args.w.now in
    rest_of w 1 ∙ unsigned_negative w (sym c.is_negative.ensures ∙ c.if-is_negative.true)

pub returns : goal.returns
returns c = sym (unsigned_other _ (sym c.is_negative.ensures ∙ c.if-is_negative.false))
