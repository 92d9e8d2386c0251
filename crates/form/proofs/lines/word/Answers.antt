use mathlib.Core.Path.{sym, ap, ◌∙◌}
use Rattle.form.specs.Lines.{Blank, stops_at, up_to, word_of}
use Rattle.form.proofs.LineLaws.{up_to_is, cut_before}
use Rattle.form.proofs.lines.word.Goals as goal

pub returns : goal.returns
unfolding word_of stops_at
returns c =
    let p = c.up_to-end.ensures in
    cut_before Blank _ _ (up_to_is Blank _ _ p.within (λ k l. sym (p.before k l)) (λ l. sym (p.found l))) ∙ ap (up_to Blank) c.content-said.ensures
