use Prim.Native.Nat.{ℕ}
use mathlib.Core.Bool.{true, false, not}
use lib.Dec.{ltb}
use Rattle.units.specs.Limits.{tree_leaves}
use Rattle.units.specs.Pairs.{number_of}
use Rattle.sprout.specs.Hashes.{has_top_bits}
use Rattle.casefile.specs.Fields.{old_key_of, old_position_of}
use Rattle.statement.proofs.TestLaws.{not_ltb}
use mathlib.Core.Path.{◌≡◌, sym, ap, ◌∙◌}
use Rattle.statement.specs.CaseRefusals.{range_of, out_of_range}
use Rattle.statement.proofs.out_of_range.Goals as goal

pub returns-then-has_top_bits : goal.returns-then-has_top_bits
unfolding range_of out_of_range
returns-then-has_top_bits c =
    let a = c.args in
    let e : has_top_bits (old_key_of (number_of a.i) a.case.now) ≡ true =
    ap has_top_bits (sym c.old_key-key.ensures) ∙ sym c.has_top_bits.ensures ∙ c.if-has_top_bits.true in
    rw e

pub returns : goal.returns
unfolding range_of out_of_range
returns c =
    let a = c.args in
    let e : has_top_bits (old_key_of (number_of a.i) a.case.now) ≡ false =
    ap has_top_bits (sym c.old_key-key.ensures) ∙ sym c.has_top_bits.ensures ∙ c.if-has_top_bits.false in
    rw e (ap not (c.is_leaf.ensures ∙ ap (λ (p : ℕ). ltb p tree_leaves) c.old_position.ensures) ∙ not_ltb (old_position_of (number_of a.i) a.case.now) tree_leaves)
