use Rattle.std.proofs.Common.{sym, arith}
use Rattle.text.proofs.PenLaws.{then, short_as}
use Rattle.text.proofs.DecimalLaws.{decimal_one, decimal_more, decimal_short}
use Rattle.text.proofs.Page.+put_number.Goals as goal

pub returns-then-n-lt10 : goal.returns-then-n-lt10
returns-then-n-lt10 g t c =
    let n = c.args.n in
    short_as (decimal_short n (omega arith)) (sym (decimal_one n (omega arith))) c.put_byte.ensures

pub returns : goal.returns
returns g t c =
    let n = c.args.n in
    short_as (decimal_short n (omega arith)) (sym (decimal_more n (omega arith))) (then c.put_number.ensures c.put_byte-2.ensures)
