use Rattle.sha256.specs.Compression.{next_word}
use Rattle.sha256.proofs.Sums.{four}
use Rattle.sha256.proofs.extend.Goals as goal

pub returns : goal.returns
unfolding next_word
returns c = cc (four c.small1.result _ c.small0.result _)
