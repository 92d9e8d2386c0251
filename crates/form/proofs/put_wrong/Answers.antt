use mathlib.Core.List.{append_assoc}
use native.Mathlib.Omega.{arith}
use Rattle.text.proofs.PenLaws.{then, text_as}
use Rattle.form.specs.Faults.{wrong_line}
use Rattle.form.proofs.put_wrong.Goals as goal

pub returns : goal.returns
unfolding wrong_line
returns g c = text_as (omega arith) (simp append_assoc) (then c.put_count.ensures (then c.put.ensures (then c.put_expected.ensures c.put-2.ensures)))
