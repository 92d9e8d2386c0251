-- The rows of number 9 are asked in the table's order, note 1, note 2, phi; at each return the tests before it are known, and put into the list they leave that row as its first.
use mathlib.Core.Path.{◌≡◌, sym, ap, ◌∙◌}
use mathlib.Core.Bool.{true, false}
use Rattle.statement.specs.CaseRefusals.{range_of, no9}
use Rattle.refusals.specs.Rules.{first}
use Rattle.sprout.specs.Hashes.{has_top_bits}
use Rattle.casefile.specs.Fields.{phi_of}
use Rattle.statement.proofs.ranges.Goals as goal

pub returns-then-out_of_range : goal.returns-then-out_of_range
unfolding no9 first
returns-then-out_of_range c =
    let case = c.args.case.now in
    let e : range_of case 1 ≡ true = sym c.out_of_range.ensures ∙ c.if-out_of_range.true in
    rw e

pub returns-then-out_of_range-2 : goal.returns-then-out_of_range-2
unfolding no9 first
returns-then-out_of_range-2 c =
    let case = c.args.case.now in
    let e : range_of case 1 ≡ false = sym c.out_of_range.ensures ∙ c.if-out_of_range.false in
    let f : range_of case 2 ≡ true = sym c.out_of_range-2.ensures ∙ c.if-out_of_range-2.true in
    rw (e, f)

pub returns-then-has_top_bits : goal.returns-then-has_top_bits
unfolding no9 first
returns-then-has_top_bits c =
    let case = c.args.case.now in
    let e : range_of case 1 ≡ false = sym c.out_of_range.ensures ∙ c.if-out_of_range.false in
    let f : range_of case 2 ≡ false = sym c.out_of_range-2.ensures ∙ c.if-out_of_range-2.false in
    let g : has_top_bits (phi_of case) ≡ true = ap has_top_bits (sym c.phi-phi.ensures) ∙ sym c.has_top_bits.ensures ∙ c.if-has_top_bits.true in
    rw (e, f, g)

pub returns : goal.returns
unfolding no9 first
returns c =
    let case = c.args.case.now in
    let e : range_of case 1 ≡ false = sym c.out_of_range.ensures ∙ c.if-out_of_range.false in
    let f : range_of case 2 ≡ false = sym c.out_of_range-2.ensures ∙ c.if-out_of_range-2.false in
    let g : has_top_bits (phi_of case) ≡ false = ap has_top_bits (sym c.phi-phi.ensures) ∙ sym c.has_top_bits.ensures ∙ c.if-has_top_bits.false in
    rw (e, f, g)
