-- A buffer that is no record, a case of wrong length, or a case taken in and its first level climbed: the three ways of the definition.
use mathlib.Core.Path.{◌≡◌, sym, ap, ◌∙◌}
use mathlib.Core.Bool.{true, not}
use mathlib.Core.Logic.{⊎_elim}
use Prim.Native.Nat.{ℕ, ◌+◌}
use native.Mathlib.Omega.{arith}
use borrow.Author.Tests.{eq-eqb, ne_eqb, not-true, not-false}
use lib.ListN.{length}
use Rattle.casefile.specs.Fields.{has_length}
use Rattle.casefile.proofs.Editions.{two_lengths}
use Rattle.slices.specs.Records.{judgement_length, steps_in, without_case}
use Rattle.slices.specs.Steps.{not_yet, climbed_in, begin_answer, record_after_begin}
use Rattle.slices.proofs.RecordLaws.{taken_steps}
use Rattle.slices.proofs.begin.Goals as goal

pub returns-then-judgement-ne-JUDGEMENT_LENGTH : goal.returns-then-judgement-ne-JUDGEMENT_LENGTH
unfolding begin_answer record_after_begin
returns-then-judgement-ne-JUDGEMENT_LENGTH c =
    let e = ne_eqb (length c.args.judgement.now) judgement_length c.if-judgement-ne-JUDGEMENT_LENGTH.true in
    record {
      value = rw e c.from.ensures;
      judgement_after = rw e;
    }

pub returns-then-not-has_length : goal.returns-then-not-has_length
unfolding begin_answer record_after_begin without_case
returns-then-not-has_length c =
    let long = eq-eqb (length c.args.judgement.now) judgement_length (omega (arith, c.if-judgement-ne-JUDGEMENT_LENGTH.false)) in
    let no = sym c.has_length.ensures ∙ not-true _ (ap not c.if-not-has_length.true) in
    record {
      value = rw (long, no) c.from-then-not-has_length.ensures;
      judgement_after = rw (long, no) c.copy_in.ensures.dst_after;
    }

-- a case of either length has room behind the head of a record
pub take_in-requires : goal.take_in-requires
take_in-requires c =
    let whole : has_length c.args.case.now ≡ true = sym c.has_length.ensures ∙ not-false _ (ap not c.if-not-has_length.false) in
    ⊎_elim (λ (e : length c.args.case.now ≡ 4210). omega (arith, c.if-judgement-ne-JUDGEMENT_LENGTH.false, e))
    (λ (e : length c.args.case.now ≡ 4106). omega (arith, c.if-judgement-ne-JUDGEMENT_LENGTH.false, e))
    ((two_lengths c.args.case.now).0 whole)

pub climb-requires : goal.climb-requires
climb-requires c =
    let long : length c.args.judgement.now ≡ judgement_length = omega (arith, c.if-judgement-ne-JUDGEMENT_LENGTH.false) in
    let whole : has_length c.args.case.now ≡ true = sym c.has_length.ensures ∙ not-false _ (ap not c.if-not-has_length.false) in
    let taken_in : let a = c.args in
    steps_in c.take_in.new.judgement ≡ 0 = let a = c.args in
    ap steps_in c.take_in.ensures ∙ taken_steps a.judgement.now (long) a.case.now (whole) in
    (omega arith, omega (arith, taken_in))

pub returns : goal.returns
unfolding begin_answer record_after_begin
returns c =
    let long : length c.args.judgement.now ≡ judgement_length = omega (arith, c.if-judgement-ne-JUDGEMENT_LENGTH.false) in
    let whole : has_length c.args.case.now ≡ true = sym c.has_length.ensures ∙ not-false _ (ap not c.if-not-has_length.false) in
    let taken_in : let a = c.args in
    steps_in c.take_in.new.judgement ≡ 0 = let a = c.args in
    ap steps_in c.take_in.ensures ∙ taken_steps a.judgement.now (long) a.case.now (whole) in
    let a = c.args in
    let tested = eq-eqb (length a.judgement.now) judgement_length long in
    record {
      value = rw (tested, whole) (c.climb.ensures.value ∙ ap (λ (n : ℕ). not_yet (n + 1)) taken_in);
      judgement_after = rw (tested, whole) (c.climb.ensures.judgement_after ∙ ap (climbed_in 1 0) c.take_in.ensures);
    }
