use Rattle.std.proofs.Common.{ℕ, List, sym, ap, arith, le-ltb, lt-ltb}
use Rattle.text.proofs.PenLaws.{text_as}
use Rattle.packing.specs.Decimals.{number_of}
use Rattle.packing.specs.Seals.{float_bytes, limit_bytes}
use Rattle.packing.proofs.put_limit.Goals as goal

pub returns-then-kind-k : goal.returns-then-kind-k
unfolding limit_bytes
returns-then-kind-k c =
    let a = c.args in
    text_as (omega arith) (sym (rw (lt-ltb a.kind a.k c.if-kind-k.true))) c.put.ensures

pub returns-else-kind-k : goal.returns-else-kind-k
unfolding limit_bytes
returns-else-kind-k c =
    let a = c.args in
    text_as (omega arith) (sym (rw (le-ltb a.kind a.k c.if-kind-k.false) (sym (ap (λ (x : List ℕ). float_bytes (number_of x)) c.word.ensures)))) c.put_float.ensures
