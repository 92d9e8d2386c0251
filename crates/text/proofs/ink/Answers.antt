use Rattle.text.proofs.PenLaws.{one_room, one_full}
use borrow.Author.Rules.{rules}
use Rattle.text.proofs.ink.Goals as goal

pub returns-then-at-bytes-clause-wrote : goal.returns-then-at-bytes-clause-wrote
returns-then-at-bytes-clause-wrote c = one_room _ _ _ (search rules)

pub returns-clause-wrote : goal.returns-clause-wrote
returns-clause-wrote c = one_full _ _ _ (search rules)
