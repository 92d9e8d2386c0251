use mathlib.Core.Path.{refl}
use native.Mathlib.Omega.{arith}
use Rattle.text.proofs.PenLaws.{text_as}
use Rattle.form.specs.Faults.{fault_line}
use Rattle.form.proofs.put_fault.Goals as goal

pub returns-in-Wrong : goal.returns-in-Wrong
unfolding fault_line
returns-in-Wrong g c = rw c.in-Wrong.is (text_as (omega arith) refl c.put_wrong.ensures)

pub returns-in-TooLong : goal.returns-in-TooLong
unfolding fault_line
returns-in-TooLong g c = rw c.in-TooLong.is (text_as (omega arith) refl c.put.ensures)
