use Rattle.replay.proofs.TurnLaws.{within_as, nowhere}
use Rattle.replay.proofs.turn.Goals as goal

pub returns-then-print : goal.returns-then-print
returns-then-print g c = c.play_next-played.ensures.plays.within

pub returns : goal.returns
returns g c = within_as c.nothing.ensures (nowhere _ _ _)
