use Rattle.std.proofs.Common.{sym, le-ltb, lt-ltb, eq-eqb, ne_eqb}
use Rattle.bag.specs.Contents.{most_bytes}
use Rattle.packing.specs.Packing.{bag_length, bytes_verdict}
use Rattle.packing.proofs.bytes_verdict.Goals as goal

pub returns-then-cases-named-gt-MOST_BYTES : goal.returns-then-cases-named-gt-MOST_BYTES
unfolding bytes_verdict
returns-then-cases-named-gt-MOST_BYTES c =
    let a = c.args in
    sym (rw (lt-ltb most_bytes (bag_length a.cases a.named) c.if-cases-named-gt-MOST_BYTES.true))

pub returns-then-named-there : goal.returns-then-named-there
unfolding bytes_verdict
returns-then-named-there c =
    let a = c.args in
    sym (rw (le-ltb most_bytes (bag_length a.cases a.named) c.if-cases-named-gt-MOST_BYTES.false, eq-eqb a.named a.there c.if-named-there.true))

pub returns : goal.returns
unfolding bytes_verdict
returns c =
    let a = c.args in
    sym (rw (le-ltb most_bytes (bag_length a.cases a.named) c.if-cases-named-gt-MOST_BYTES.false, ne_eqb a.named a.there c.if-named-there.false))
