use mathlib.Core.Path.{ap, ◌∙◌}
use borrow.Author.Tests.{eq-eqb, ne_eqb}
use Rattle.units.specs.Pairs.{number_of}
use Rattle.statement.specs.CaseRefusals.{old_commitment_of}
use Rattle.slices.specs.Steps.{start_in}
use Rattle.slices.proofs.start_in.Goals as goal

pub returns-then-level-eq0 : goal.returns-then-level-eq0
unfolding start_in
returns-then-level-eq0 c =
    let a = c.args in
    rw (eq-eqb a.level 0 c.if-level-eq0.true) (c.old_commitment.ensures ∙ ap (old_commitment_of (number_of a.i)) c.case_in.ensures)

pub returns : goal.returns
unfolding start_in
returns c = rw (ne_eqb c.args.level 0 c.if-level-eq0.false) c.node_in.ensures
