use mathlib.Core.Path.{ap, ◌∙◌}
use mathlib.Core.List.{List, ◌++◌}
use Prim.Native.Nat.{ℕ}
use Rattle.sha256.specs.Compression.{compress_of}
use Rattle.sprout.specs.Hashes.{prefixed}
use Rattle.sprout.proofs.prefixed.Goals as goal

pub returns : goal.returns
unfolding prefixed
returns c = c.compress_halves.ensures ∙ ap (λ (k : List ℕ). compress_of (k ++ c.args.rest.now)) c.with_prefix-k.ensures
