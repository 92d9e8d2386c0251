-- The whole gives what is left to read gives behind the fields that were read, whose bytes are on the page; there are at most as many lines as bytes, and one
-- more.
use mathlib.Core.Bool.{not}
use Prim.Native.Nat.{◌<◌}
use mathlib.Core.Path.{sym, ap, ◌∙◌}
use native.Mathlib.Omega.{arith}
use lib.ListN.{length, length-take, length-drop}
use borrow.Author.Tests.{not-true, not-false, lt-ltb, le-ltb}
use Rattle.text.proofs.PenLaws.{text_as}
use Rattle.form.specs.Forms.{Reading}
use Rattle.form.specs.Lines.{End}
use Rattle.form.proofs.LineLaws.{up_to_is, line_cut}
use Rattle.form.proofs.FieldLaws.{in_table}
use Rattle.form.proofs.ReadLaws.{read_as, begin, page, ended, pass, add, wrong}
use Rattle.form.proofs.read_lines.Goals as goal
use Rattle.form.proofs.read_lines.Goals.{then-not-is_passed_over+else-not-is_field, else-not-is_passed_over}

pub loop-at-init : goal.loop-at-init
loop-at-init c = record { at_end = omega arith; line_count = omega arith; in_table = omega arith; read = begin _ _ }

pub is_field-requires : goal.is_field-requires
is_field-requires c = simp (length-take, length-drop) (omega (arith, c.requires))

pub returns-then-not-is_field : goal.returns-then-not-is_field
returns-then-not-is_field c =
    let v = c.loop-at.invariant in
    let l = line_cut c.args.text.now c.loop-at.at c.up_to-n.result (up_to_is End _ _ c.up_to-n.ensures.within (λ k l. sym (c.up_to-n.ensures.before k l)) (λ l. sym (c.up_to-n.ensures.found l))) in
    let e = wrong v.read _ _ (omega arith) l.0 l.1 (sym c.is_passed_over.ensures ∙ not-true _ (ap not c.if-not-is_passed_over.true))
    (sym c.is_field.ensures ∙ not-true _ (ap not c.if-not-is_field.true)) in record {
      value = sym (ap (λ (r : Reading). r.formed) e);
      wrote = text_as (omega arith) (ap (λ (r : Reading). r.bytes) (sym e)) (page v.read v.in_table);
    }

pub put_field-requires : goal.put_field-requires
put_field-requires c = (simp (length-take, length-drop) (omega (arith, c.requires)), sym c.is_field.ensures ∙ not-false _ (ap not c.if-not-is_field.false))

pub loop-at-preserved : goal.loop-at-preserved
loop-at-preserved c =
    let v = c.loop-at.invariant in
    let l = line_cut c.args.text.now c.loop-at.at c.up_to-n.result (up_to_is End _ _ c.up_to-n.ensures.within (λ k l. sym (c.up_to-n.ensures.before k l)) (λ l. sym (c.up_to-n.ensures.found l))) in
    let h : c.loop-at.at < length c.args.text.now = omega arith in
    let n = simp (length-take, length-drop) at c.up_to-n.ensures.within in
    elim c.if-not-is_passed_over.branch [
      | then-not-is_passed_over+else-not-is_field w ↦
          let t = sym w.is_field.ensures ∙ not-false _ (ap not w.if-not-is_field.false) in record {
            at_end = omega arith;
            line_count = omega arith;
            in_table = omega (arith, w.field-is, in_table _ _ t);
            read = read_as w.field-is w.draft-is (add v.read _ _ h l.0 l.1 (sym c.is_passed_over.ensures ∙ not-true _ (ap not w.if-not-is_passed_over.true)) t w.put_field.ensures);
          }
      | else-not-is_passed_over w ↦ record {
        at_end = omega arith;
        line_count = omega arith;
        in_table = omega (arith, w.field-is);
        read = read_as w.field-is w.draft-is (pass v.read _ _ h l.0 l.1 (sym c.is_passed_over.ensures ∙ not-false _ (ap not w.if-not-is_passed_over.false)));
      }
    ]

pub returns-then-field-lt-COUNT : goal.returns-then-field-lt-COUNT
returns-then-field-lt-COUNT c =
    let v = c.loop-at.invariant in
    let e = rw (lt-ltb c.loop-at.field 28 c.if-field-lt-COUNT.true) at (ended v.read (omega arith)) in record {
      value = sym (ap (λ (r : Reading). r.formed) e);
      wrote = text_as (omega arith) (ap (λ (r : Reading). r.bytes) (sym e)) (page v.read v.in_table);
    }

pub returns : goal.returns
returns c =
    let v = c.loop-at.invariant in
    let e = rw (le-ltb c.loop-at.field 28 c.if-field-lt-COUNT.false) at (ended v.read (omega arith)) in record {
      value = sym (ap (λ (r : Reading). r.formed) e);
      wrote = text_as (omega arith) (ap (λ (r : Reading). r.bytes) (sym e)) (page v.read v.in_table);
    }
