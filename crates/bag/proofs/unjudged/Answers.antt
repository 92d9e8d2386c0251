use Rattle.bag.specs.SealAndCases.{seven_answers, report}
use Rattle.bag.proofs.unjudged.Goals as goal

pub returns : goal.returns
unfolding seven_answers report
returns c = rw c.not_given-none.ensures
