use native.Mathlib.Omega.{arith}
use Rattle.text.proofs.PenLaws.{then, text_as}
use Rattle.scanning.proofs.LineLaws.{ledger_as}
use Rattle.scanning.proofs.put_ledger.Goals as goal

pub returns : goal.returns
returns c =
    text_as (omega arith) (ledger_as _ c.zatoshi.ensures)
    (then c.put_count.ensures (then c.put_count-2.ensures (then c.put_count-3.ensures c.put.ensures)))
