use Rattle.std.proofs.Common.{refl}
use Rattle.octets.specs.Parts.{listed, field}
use Rattle.blake2b.specs.Compression.{xored, feed}
use Rattle.blake2b.proofs.feed.Goals as goal

pub returns : goal.returns
unfolding feed xored field listed
returns c = refl
