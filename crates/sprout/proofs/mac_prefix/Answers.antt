use borrow.Author.Rules.{rules}
use Rattle.sprout.proofs.mac_prefix.Goals as goal

pub returns-in-First : goal.returns-in-First
returns-in-First c = rw c.in-First.is (search rules)

pub returns-in-Second : goal.returns-in-Second
returns-in-Second c = rw c.in-Second.is (search rules)
