use native.Mathlib.Omega.{arith}
use Rattle.text.proofs.PenLaws.{holds}
use Rattle.tray.proofs.name_page.Goals as goal

pub returns : goal.returns
returns c = holds {n = 640} (omega (arith, c.requires)) c.new-page.ensures c.put_name_line.ensures
