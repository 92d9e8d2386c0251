use Rattle.std.proofs.Common.{◌+◌, ◌∙◌}
use Rattle.packing.proofs.WordLaws.{rest_of, place_is, behind_found, behind_none}
use Rattle.packing.proofs.behind.Goals as goal

pub returns-then-i-s : goal.returns-then-i-s
returns-then-i-s c =
    let p = c.place-i.ensures in
    rest_of c.args.s.now (c.place-i.result + 1) ∙ behind_found c.args.x c.args.s.now _ (place_is _ _ _ p.within p.before p.found)

pub returns-else-i-s : goal.returns-else-i-s
returns-else-i-s c =
    let p = c.place-i.ensures in
    rest_of c.args.s.now c.place-i.result ∙ behind_none c.args.x c.args.s.now _ (place_is _ _ _ p.within p.before p.found) c.if-i-s.false
