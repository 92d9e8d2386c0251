use native.Mathlib.Omega.{arith}
use mathlib.Core.List.{append_assoc}
use Rattle.text.proofs.PenLaws.{then, text_as}
use Rattle.form.specs.Faults.{kind_words}
use Rattle.form.proofs.put_hex_digits.Goals as goal

pub returns : goal.returns
unfolding kind_words
returns g c = text_as (omega arith) (simp append_assoc) (then c.put_count.ensures c.put.ensures)
