use mathlib.Core.Path.{sym, ◌∙◌}
use Rattle.refusals.proofs.RuleLaws.{each_first, each_second, each_none}
use Rattle.slices.specs.Steps.{strays_in, held10}
use Rattle.slices.proofs.ends.Goals as goal

pub returns-then-strays : goal.returns-then-strays
unfolding held10
returns-then-strays c =
    let b = c.args.judgement.now in
    each_first (strays_in b) 10 (sym c.strays.ensures ∙ c.if-strays.true)

pub returns-then-strays-2 : goal.returns-then-strays-2
unfolding held10
returns-then-strays-2 c =
    let b = c.args.judgement.now in
    each_second (strays_in b) 10 (sym c.strays.ensures ∙ c.if-strays.false) (sym c.strays-2.ensures ∙ c.if-strays-2.true)

pub returns : goal.returns
unfolding held10
returns c =
    let b = c.args.judgement.now in
    each_none (strays_in b) 10 (sym c.strays.ensures ∙ c.if-strays.false) (sym c.strays-2.ensures ∙ c.if-strays-2.false)
