use Rattle.blake2b.specs.Compression.{F}
use Rattle.blake2b.proofs.compress.Goals as goal

pub returns : goal.returns
unfolding F
returns c = rw (c.feed.ensures, c.rounds.ensures, c.start-v.ensures, c.words-m.ensures)
