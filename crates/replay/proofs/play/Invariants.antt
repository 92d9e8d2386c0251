-- Each turn leaves a state whose lent parts lie within table and roll.
use Rattle.replay.specs.Tape.{LentWithin}
use Rattle.replay.proofs.play.Given as goal

abbrev pub invariant-loop : goal.invariant-loop
invariant-loop g l = LentWithin l.state l.table l.roll
