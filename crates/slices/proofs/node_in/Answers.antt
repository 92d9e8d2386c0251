use mathlib.Core.Path.{ap, ◌∙◌}
use Prim.Native.Nat.{ℕ}
use Rattle.octets.specs.Parts.{field}
use Rattle.slices.specs.Records.{node_in}
use Rattle.slices.proofs.node_in.Goals as goal

pub returns : goal.returns
unfolding node_in
returns c = c.part.ensures ∙ ap (λ (n : ℕ). field n 32 c.args.judgement.now) c.node_at.ensures
