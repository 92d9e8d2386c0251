use mathlib.Core.Bool.{not}
use mathlib.Core.Path.{sym, ap, ◌∙◌}
use borrow.Author.Tests.{not-true, not-false}
use Rattle.seal.specs.Pull.{at_gate, judge_of}
use Rattle.seal.proofs.Bits.{finite_is}
use Rattle.seal.proofs.PullLaws.{bad_limit_lem, not_finite_lem, not_within, passes}
use Rattle.seal.proofs.judge.Goals as goal

pub returns-then-has_bad_limit : goal.returns-then-has_bad_limit
unfolding judge_of
returns-then-has_bad_limit c = bad_limit_lem _ _ (sym c.has_bad_limit.ensures ∙ c.if-has_bad_limit.true)

pub returns-then-not-is_finite : goal.returns-then-not-is_finite
unfolding judge_of
returns-then-not-is_finite c =
    not_finite_lem _ _ (sym c.has_bad_limit.ensures ∙ c.if-has_bad_limit.false) (sym (finite_is _) ∙ sym c.is_finite.ensures.value ∙ not-true _ (ap not c.if-not-is_finite.true))
    ∙ ap (at_gate _) c.pull-p.ensures

pub returns-then-not-is_within : goal.returns-then-not-is_within
unfolding judge_of
returns-then-not-is_within c =
    not_within _ _ (sym c.has_bad_limit.ensures ∙ c.if-has_bad_limit.false) (sym (finite_is _) ∙ sym c.is_finite.ensures.value ∙ not-false _ (ap not c.if-not-is_finite.false)) (sym c.is_within.ensures ∙ not-true _ (ap not c.if-not-is_within.true))
    ∙ ap (at_gate _) c.pull-p.ensures

pub returns : goal.returns
unfolding judge_of
returns c =
    passes _ _ (sym c.has_bad_limit.ensures ∙ c.if-has_bad_limit.false) (sym (finite_is _) ∙ sym c.is_finite.ensures.value ∙ not-false _ (ap not c.if-not-is_finite.false)) (sym c.is_within.ensures ∙ not-false _ (ap not c.if-not-is_within.false))
    ∙ ap (at_gate _) c.pull-p.ensures
