use native.Mathlib.Omega.{arith}
use Rattle.text.proofs.PenLaws.{holds}
use Rattle.writing.proofs.print_form.Goals as goal

pub returns : goal.returns
returns c = holds {n = 4257} (omega arith) c.new-page.ensures c.put_form.ensures
