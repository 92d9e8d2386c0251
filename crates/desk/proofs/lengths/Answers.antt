use mathlib.Core.Path.{◌≡◌, sym, ◌∙◌, ap}
use mathlib.Core.Bool.{false, true, not}
use lib.Dec.{eqb}
use lib.ListN.{length}
use borrow.Author.Tests.{not-true, not-false, eq-eqb, ne_eqb}
use Rattle.casefile.specs.Fields.{has_length}
use Rattle.refusals.proofs.RuleLaws.{one_holds, one_fails}
use Rattle.desk.specs.Drafts.{lengths1, one_length}
use Rattle.desk.proofs.lengths.Goals as goal

pub returns-then-not-has_length : goal.returns-then-not-has_length
unfolding lengths1 one_length
returns-then-not-has_length c =
    let a = c.args in
    let e : has_length a.draft.now ≡ false = sym c.has_length.ensures ∙ not-true _ (ap not c.if-not-has_length.true) in
    one_holds (not (one_length a.draft.now (length a.buffer.now))) 1 0 (rw e)

pub returns-then-buffer-draft : goal.returns-then-buffer-draft
unfolding lengths1 one_length
returns-then-buffer-draft c =
    let a = c.args in
    let e : has_length a.draft.now ≡ true = sym c.has_length.ensures ∙ not-false _ (ap not c.if-not-has_length.false) in
    let f : eqb (length a.buffer.now) (length a.draft.now) ≡ false = ne_eqb _ _ c.if-buffer-draft.true in
    one_holds (not (one_length a.draft.now (length a.buffer.now))) 1 0 (rw (e, f))

pub returns : goal.returns
unfolding lengths1 one_length
returns c =
    let a = c.args in
    let e : has_length a.draft.now ≡ true = sym c.has_length.ensures ∙ not-false _ (ap not c.if-not-has_length.false) in
    let f : eqb (length a.buffer.now) (length a.draft.now) ≡ true = eq-eqb _ _ c.if-buffer-draft.false in
    one_fails (not (one_length a.draft.now (length a.buffer.now))) 1 0 (rw (e, f))
