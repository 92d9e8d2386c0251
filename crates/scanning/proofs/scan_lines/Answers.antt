use mathlib.Core.Path.{ap}
use Rattle.text.proofs.PenLaws.{rendered_as}
use Rattle.scanning.specs.Lines.{lines_of}
use Rattle.scanning.proofs.scan_lines.Goals as goal

pub returns : goal.returns
returns c = rendered_as (ap (lines_of _) c.scan_fresh.ensures) c.render.ensures
