use mathlib.Core.Path.{refl}
use Rattle.form.specs.Lines.{stops_at}
use Rattle.form.proofs.lines.is_end.Goals as goal

pub returns : goal.returns
unfolding stops_at
returns c = refl
