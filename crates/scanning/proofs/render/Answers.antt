use native.Mathlib.Omega.{arith}
use Rattle.text.proofs.PenLaws.{holds}
use Rattle.scanning.proofs.render.Goals as goal

pub returns : goal.returns
returns c = holds {n = 640} (omega arith) c.new-page.ensures c.put_scan.ensures
