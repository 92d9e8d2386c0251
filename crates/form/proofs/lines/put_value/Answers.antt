use mathlib.Core.Path.{refl, sym, ap, ◌∙◌}
use mathlib.Core.List.{flat_map}
use native.Mathlib.Omega.{arith}
use lib.ListN.{length, length-take, length-drop}
use Rattle.text.proofs.PenLaws.{rendered, rendered_as}
use Rattle.form.specs.Lines.{Blank, stops_at, from, ink_of, value_of}
use Rattle.form.proofs.LineLaws.{up_to_is, cut_from, content_short}
use Rattle.form.proofs.lines.put_value.Goals as goal

pub returns : goal.returns
unfolding value_of stops_at
returns c =
    let e = cut_from Blank _ _ _ (up_to_is Blank _ _ c.up_to-start.ensures.within (λ k l. sym (c.up_to-start.ensures.before k l)) (λ l. sym (c.up_to-start.ensures.found l))) refl ∙ ap (from Blank) c.content-said.ensures in
    rendered_as (ap (flat_map ink_of) e)
    (rendered (simp (length-take, length-drop) (omega (arith, ap length c.content-said.ensures, content_short c.args.line.now, c.requires, c.clear.ensures.room)))
    (rw c.clear.ensures.cleared at c.put_without_blanks.ensures))
