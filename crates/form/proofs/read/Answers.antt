use mathlib.Core.Path.{sym, ap, subst, ◌∙◌}
use native.Mathlib.Omega.{arith}
use Rattle.text.specs.Pen.{Pen, Wrote}
use Rattle.text.proofs.PenLaws.{start, text_as}
use Rattle.form.specs.Forms.{Reading, reading_of}
use Rattle.form.proofs.ReadLaws.{too_long, not_too_long}
use Rattle.form.proofs.DraftLaws.{draft_lem}
use Rattle.form.proofs.read.Goals as goal

pub returns-then-text-gt-MOST_TEXT : goal.returns-then-text-gt-MOST_TEXT
returns-then-text-gt-MOST_TEXT c =
    let s = c.args.text.now in
    let q = c.clear.new.self in
    let e = too_long s (omega arith) in
    let w = subst (λ (p : Pen). Wrote 4210 (reading_of s).bytes p q) c.clear.ensures.cleared (text_as (omega arith) (ap (λ (r : Reading). r.bytes) (sym e)) (start q)) in record {
      value = sym (ap (λ (r : Reading). r.formed) e);
      wrote = w;
      draft_after = draft_lem s _ q c.clear.ensures.room w;
    }

pub returns : goal.returns
returns c =
    let s = c.args.text.now in
    let e = not_too_long s (omega arith) in
    let w = text_as (omega arith) (ap (λ (r : Reading). r.bytes) (sym e)) (rw c.clear.ensures.cleared at c.read_lines.ensures.wrote) in record {
      value = c.read_lines.ensures.value ∙ sym (ap (λ (r : Reading). r.formed) e);
      wrote = w;
      draft_after = draft_lem s _ _ c.clear.ensures.room w;
    }
