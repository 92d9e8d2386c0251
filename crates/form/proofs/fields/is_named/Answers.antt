use mathlib.Core.Path.{sym, ap, ◌∙◌}
use Rattle.octets.specs.Parts.{same}
use Rattle.form.specs.Lines.{Blank, stops_at}
use Rattle.form.proofs.LineLaws.{up_to_is, cut_before}
use Rattle.form.proofs.fields.is_named.Goals as goal

pub returns : goal.returns
unfolding stops_at
returns c = c.same.ensures ∙ ap (same c.args.word.now) (cut_before Blank _ _ (up_to_is Blank _ _ c.up_to-n.ensures.within (λ k l. sym (c.up_to-n.ensures.before k l)) (λ l. sym (c.up_to-n.ensures.found l))) ∙ c.entry.ensures.name)
