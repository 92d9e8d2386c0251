use Rattle.std.proofs.Common.{arith}
use Rattle.text.proofs.PenLaws.{then, text_as}
use Rattle.packing.proofs.TextLaws.{seal_as}
use Rattle.packing.proofs.put_seal.Goals as goal

pub returns : goal.returns
returns c =
    text_as (omega arith) (seal_as c.args.kind c.args.line.now _ c.requires c.word.ensures)
    (then c.put.ensures (then c.put_limit.ensures (then c.put_limit-2.ensures c.put_float.ensures)))
