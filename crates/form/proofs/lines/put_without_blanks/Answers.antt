use Rattle.std.proofs.Common.{ℕ, sym, ap, ◌∙◌, get_or, refl, arith}
use mathlib.Core.Bool.{not}
use mathlib.Core.List.{flat_map}
use lib.Seq.{take_all}
use borrow.Author.Tests.{not-true, not-false}
use Rattle.text.specs.Pen.{Wrote}
use Rattle.text.proofs.PenLaws.{start, one_more, text_as}
use Rattle.form.specs.Lines.{ink_of}
use Rattle.form.proofs.lines.put_without_blanks.Goals as goal
use Rattle.form.proofs.lines.put_without_blanks.Goals.{then-not-is_blank, else-not-is_blank}

pub loop-x-init : goal.loop-x-init
unfolding flat_map
loop-x-init c = start _

pub loop-x-preserved : goal.loop-x-preserved
unfolding ink_of
loop-x-preserved c =
    let x = get_or c.args.s.now c.loop-x.x-index 0 in
    let turn : Wrote 1 (ink_of x) c.loop-x.page c.if-not-is_blank.page =
    elim c.if-not-is_blank.branch [
      | then-not-is_blank w ↦ rw (w.page-is, sym c.is_blank.ensures ∙ not-true _ (ap not w.if-not-is_blank.true)) w.put.ensures
      | else-not-is_blank w ↦ rw (w.page-is, sym c.is_blank.ensures ∙ not-false _ (ap not w.if-not-is_blank.false)) (text_as (omega arith) refl (start _))
    ] in
    one_more {A = ℕ} ink_of c.args.s.now c.loop-x.x-index 0 (omega arith) c.loop-x.invariant turn

pub returns : goal.returns
returns c = text_as (omega arith) (ap (flat_map ink_of) (take_all c.loop-x.x-index c.args.s.now (omega arith))) c.loop-x.invariant
