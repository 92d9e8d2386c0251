use mathlib.Core.Path.{ap, ◌∙◌}
use Rattle.tree.specs.Record.{step_of}
use Rattle.slices.specs.Steps.{parent_on}
use Rattle.slices.proofs.Levels.{sibling}
use Rattle.slices.proofs.parent_on.Goals as goal

pub returns : goal.returns
unfolding parent_on
returns c =
    let a = c.args in
    c.step_up.ensures
    ∙ rw (c.ancestor-position.ensures, c.old_position.ensures, c.part-sibling.ensures, c.old_path.ensures)
    (ap (step_of _ a.node.now) (sibling a.i a.case.now a.level c.requires))
