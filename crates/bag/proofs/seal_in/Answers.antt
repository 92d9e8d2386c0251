use mathlib.Core.Bool.{not}
use native.Mathlib.Omega.{arith}
use mathlib.Core.Path.{sym, ◌∙◌, ap}
use borrow.Author.Tests.{not-true, not-false}
use Rattle.bag.specs.SealAndCases.{seal_in}
use Rattle.bag.proofs.OrderLaws.{kept}
use borrow.Author.Rules.{rules}
use Rattle.bag.proofs.seal_in.Goals as goal

pub returns-then-not-is_laid_out : goal.returns-then-not-is_laid_out
unfolding seal_in
returns-then-not-is_laid_out c =
    let q = c.is_laid_out in
    simp (sym q.ensures ∙ not-true q.result (ap not c.if-not-is_laid_out.true))

pub body-requires : goal.body-requires
body-requires c =
    let k = kept c.args.bag.now (sym c.is_laid_out.ensures ∙ not-false c.is_laid_out.result (ap not c.if-not-is_laid_out.false)) in
    record {
      i_bound = search rules;
      bag_in_bounds = k.lies 0 (omega (arith, k.some));
    }

pub returns : goal.returns
unfolding seal_in
returns c =
    let q = c.is_laid_out in
    simp (sym q.ensures ∙ not-false q.result (ap not c.if-not-is_laid_out.false), c.read_body.ensures, c.body.ensures)
