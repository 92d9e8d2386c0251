use Rattle.replay.proofs.TurnLaws.{within_as, nowhere}
use Rattle.replay.proofs.play.Goals as goal

pub loop-init : goal.loop-init
loop-init g c = within_as c.nothing-state.ensures (nowhere _ _ _)
