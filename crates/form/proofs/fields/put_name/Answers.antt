use mathlib.Core.Path.{sym, ◌∙◌}
use native.Mathlib.Omega.{arith}
use lib.ListN.{length-take}
use Rattle.text.proofs.PenLaws.{text_as}
use Rattle.form.specs.Lines.{Blank, stops_at}
use Rattle.form.proofs.LineLaws.{up_to_is, cut_before}
use Rattle.form.proofs.fields.put_name.Goals as goal

pub returns : goal.returns
unfolding stops_at
returns g c = text_as (simp length-take (omega arith)) (cut_before Blank _ _ (up_to_is Blank _ _ c.up_to-n.ensures.within (λ k l. sym (c.up_to-n.ensures.before k l)) (λ l. sym (c.up_to-n.ensures.found l))) ∙ c.entry.ensures.name) c.put.ensures
