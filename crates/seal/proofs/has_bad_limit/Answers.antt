use mathlib.Core.Bool.{not}
use mathlib.Core.Path.{sym, ◌∙◌, ap}
use borrow.Author.Tests.{not-true, not-false}
use Rattle.seal.specs.Pull.{bad_limit}
use Rattle.seal.proofs.Bits.{finite_is}
use borrow.Author.Rules.{rules}
use Rattle.seal.proofs.has_bad_limit.Goals as goal

pub returns-then-not-is_finite : goal.returns-then-not-is_finite
unfolding bad_limit
returns-then-not-is_finite c = simp (c.in-Between.is, sym (finite_is _) ∙ sym c.is_finite-in-Between.ensures.value ∙ not-true _ (ap not c.if-not-is_finite.true))

pub returns-then-not-is_finite-2 : goal.returns-then-not-is_finite-2
unfolding bad_limit
returns-then-not-is_finite-2 c = simp (c.in-Between.is, sym (finite_is _) ∙ sym c.is_finite-in-Between.ensures.value ∙ not-false _ (ap not c.if-not-is_finite.false), sym (finite_is _) ∙ sym c.is_finite-in-Between-2.ensures.value ∙ not-true _ (ap not c.if-not-is_finite-2.true))

pub returns-in-None : goal.returns-in-None
unfolding bad_limit
returns-in-None c = search rules

pub returns-in-AtLeast : goal.returns-in-AtLeast
unfolding bad_limit
returns-in-AtLeast c = simp (c.in-AtLeast.is, c.is_finite.ensures.value ∙ finite_is _)

pub returns-else-not-is_finite-2 : goal.returns-else-not-is_finite-2
unfolding bad_limit
returns-else-not-is_finite-2 c = simp (c.in-Between.is, sym (finite_is _) ∙ sym c.is_finite-in-Between.ensures.value ∙ not-false _ (ap not c.if-not-is_finite.false), sym (finite_is _) ∙ sym c.is_finite-in-Between-2.ensures.value ∙ not-false _ (ap not c.if-not-is_finite-2.false))
