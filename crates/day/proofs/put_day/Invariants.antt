-- After i entries the text on the page, followed by the lines that the other entries give from these rows and this tally, is the whole day's text; with no entry left, the list and the tally end it.
use Rattle.day.specs.Lines.{entries, whole_day}
use Rattle.day.proofs.LineLaws.{SoFar}
use Rattle.day.proofs.put_day.Given as goal

abbrev pub invariant-loop-e : goal.invariant-loop-e
invariant-loop-e l = SoFar whole_day entries l.e-index l.rows l.t l.initial.page l.page
