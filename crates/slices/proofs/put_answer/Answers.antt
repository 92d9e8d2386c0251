use mathlib.Core.Path.{refl, ◌∙◌}
use Rattle.octets.specs.Numbers.{little_bytes}
use Rattle.octets.proofs.NumberLaws.{little_bytes_mod}
use Rattle.slices.specs.Records.{with_answer}
use Rattle.slices.proofs.put_answer.Goals as goal

pub returns : goal.returns
unfolding with_answer little_bytes
returns c = c.copy_in.ensures.dst_after ∙ rw (c.le_bytes16.ensures, little_bytes_mod 2 c.index.result, c.index.ensures) refl
