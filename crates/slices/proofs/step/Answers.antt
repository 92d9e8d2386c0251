-- Each return has its share: which one follows from the tests that were passed, and what the share's function gives is that share's outcome.
use mathlib.Core.Path.{◌≡◌, sym, ap, ◌∙◌}
use mathlib.Core.Bool.{true, not}
use Prim.Native.Nat.{ℕ, ◌-◌}
use native.Mathlib.Omega.{arith}
use borrow.Author.Tests.{not-true, not-false}
use Rattle.slices.specs.Records.{steps_in, holds_case}
use Rattle.slices.specs.Steps.{climbed_in}
use Rattle.slices.proofs.Outcomes.{none_held, first_climbed, second_climbed, checked, settled, done}
use Rattle.slices.proofs.step.Goals as goal

pub returns-then-not-holds_case : goal.returns-then-not-holds_case
returns-then-not-holds_case c =
    let a = c.args in
    let all = none_held a.judgement.now a.table.now a.roll.now a.kept.now c.from.result (sym c.holds_case.ensures ∙ not-true _ (ap not c.if-not-holds_case.true)) c.from.ensures in
    record {
      value = all.0;
      judgement_after = all.1.0;
      table_after = all.1.1.0;
      kept_after = all.1.1.1;
    }

pub returns-then-steps-lt29 : goal.returns-then-steps-lt29
returns-then-steps-lt29 c =
    let held : holds_case c.args.judgement.now ≡ true = sym c.holds_case.ensures ∙ not-false _ (ap not c.if-not-holds_case.false) in
    let counted : steps_in c.args.judgement.now ≡ c.steps_in-steps.result = sym c.steps_in-steps.ensures in
    let a = c.args in
    let all = first_climbed a.judgement.now a.table.now a.roll.now a.kept.now (held) c.climb.result _ (omega (arith, counted, c.if-steps-lt29.true)) c.climb.ensures.value (c.climb.ensures.judgement_after ∙ ap (λ (x : ℕ). climbed_in 1 x a.judgement.now) c.steps_in-steps.ensures) in
    record {
      value = all.0;
      judgement_after = all.1.0;
      table_after = all.1.1.0;
      kept_after = all.1.1.1;
    }

pub returns-then-steps-lt58 : goal.returns-then-steps-lt58
returns-then-steps-lt58 c =
    let held : holds_case c.args.judgement.now ≡ true = sym c.holds_case.ensures ∙ not-false _ (ap not c.if-not-holds_case.false) in
    let counted : steps_in c.args.judgement.now ≡ c.steps_in-steps.result = sym c.steps_in-steps.ensures in
    let a = c.args in
    let all = second_climbed a.judgement.now a.table.now a.roll.now a.kept.now (held) c.climb-then-steps-lt58.result _ (omega (arith, counted, c.if-steps-lt29.false)) (omega (arith, counted, c.if-steps-lt58.true)) c.climb-then-steps-lt58.ensures.value (c.climb-then-steps-lt58.ensures.judgement_after ∙ ap (λ (x : ℕ). climbed_in 2 (x - 29) a.judgement.now) c.steps_in-steps.ensures) in
    record {
      value = all.0;
      judgement_after = all.1.0;
      table_after = all.1.1.0;
      kept_after = all.1.1.1;
    }

pub returns-then-steps-eq58 : goal.returns-then-steps-eq58
returns-then-steps-eq58 c =
    let held : holds_case c.args.judgement.now ≡ true = sym c.holds_case.ensures ∙ not-false _ (ap not c.if-not-holds_case.false) in
    let counted : steps_in c.args.judgement.now ≡ c.steps_in-steps.result = sym c.steps_in-steps.ensures in
    let a = c.args in
    let all = checked a.judgement.now a.table.now a.roll.now a.kept.now (held) c.check.result _ (counted ∙ c.if-steps-eq58.true) c.check.ensures.value c.check.ensures.judgement_after in
    record {
      value = all.0;
      judgement_after = all.1.0;
      table_after = all.1.1.0;
      kept_after = all.1.1.1;
    }

pub returns-then-steps-eq59 : goal.returns-then-steps-eq59
returns-then-steps-eq59 c =
    let held : holds_case c.args.judgement.now ≡ true = sym c.holds_case.ensures ∙ not-false _ (ap not c.if-not-holds_case.false) in
    let counted : steps_in c.args.judgement.now ≡ c.steps_in-steps.result = sym c.steps_in-steps.ensures in
    let a = c.args in
    let w = c.settle.ensures in
    let all = settled a.judgement.now a.table.now a.roll.now a.kept.now (held) c.settle.result _ _ _ (counted ∙ c.if-steps-eq59.true) w.value w.judgement_after w.table_after w.kept_after in
    record {
      value = all.0;
      judgement_after = all.1.0;
      table_after = all.1.1.0;
      kept_after = all.1.1.1;
    }

pub returns : goal.returns
returns c =
    let held : holds_case c.args.judgement.now ≡ true = sym c.holds_case.ensures ∙ not-false _ (ap not c.if-not-holds_case.false) in
    let counted : steps_in c.args.judgement.now ≡ c.steps_in-steps.result = sym c.steps_in-steps.ensures in
    let a = c.args in
    let all = done a.judgement.now a.table.now a.roll.now a.kept.now (held) c.answer_in.result (omega (arith, counted, c.if-steps-lt58.false, c.if-steps-eq58.false, c.if-steps-eq59.false)) c.answer_in.ensures in
    record {
      value = all.0;
      judgement_after = all.1.0;
      table_after = all.1.1.0;
      kept_after = all.1.1.1;
    }
