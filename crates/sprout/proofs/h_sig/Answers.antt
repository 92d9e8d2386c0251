use mathlib.Core.Path.{ap, ◌∙◌}
use Rattle.sprout.specs.Hashes.{h_sig_from, personal}
use Rattle.blake2b.specs.Hashing.{blake2b_of}
use Rattle.sprout.proofs.h_sig.Goals as goal

pub returns : goal.returns
unfolding h_sig_from personal
returns c = c.hash32.ensures ∙ ap (blake2b_of 32 personal) c.bound_bytes-m.ensures
