use mathlib.Core.Path.{ap, ◌∙◌}
use Rattle.casefile.specs.Fields.{has_length}
use Rattle.slices.specs.Records.{holds_case}
use Rattle.slices.proofs.holds_case.Goals as goal

pub returns : goal.returns
unfolding holds_case
returns c = c.has_length.ensures ∙ ap has_length c.case_in.ensures
