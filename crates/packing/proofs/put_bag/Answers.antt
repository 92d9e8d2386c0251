use Rattle.text.proofs.PenLaws.{then, short_as}
use Rattle.packing.proofs.TextLaws.{bag_as, bag_short}
use Rattle.packing.proofs.put_bag.Goals as goal

pub returns : goal.returns
returns c =
    let a = c.args in
    let named = c.requires.line_value in
    short_as (bag_short a.kind a.cases a.line.now a.bytes.now named c.requires.bytes_bound)
    (bag_as a.kind a.cases a.line.now a.bytes.now _ c.le_bytes16.ensures named)
    (then c.put.ensures (then c.put_row.ensures (then c.put_rows.ensures (then c.put_seal.ensures c.put-2.ensures))))
