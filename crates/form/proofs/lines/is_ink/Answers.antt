use mathlib.Core.Path.{ap}
use mathlib.Core.Bool.{not}
use Rattle.form.specs.Lines.{stops_at}
use Rattle.form.proofs.lines.is_ink.Goals as goal

pub returns : goal.returns
unfolding stops_at
returns c = ap not c.is_blank.ensures
