use mathlib.Core.Path.{refl}
use native.Mathlib.Omega.{arith}
use Rattle.text.proofs.PenLaws.{text_as}
use Rattle.form.specs.Faults.{kind_words}
use Rattle.form.proofs.put_kind.Goals as goal

pub returns-in-Amount : goal.returns-in-Amount
unfolding kind_words
returns-in-Amount g c = rw c.in-Amount.is (text_as (omega arith) refl c.put_count.ensures)

pub returns-in-Position : goal.returns-in-Position
unfolding kind_words
returns-in-Position g c = rw c.in-Position.is (text_as (omega arith) refl c.put_count-in-Position.ensures)

pub returns-in-Hex : goal.returns-in-Hex
returns-in-Hex g c = rw c.in-Hex.is (text_as (omega arith) refl c.put_hex_digits.ensures)

pub returns-in-Proof : goal.returns-in-Proof
unfolding kind_words
returns-in-Proof g c = rw c.in-Proof.is (text_as (omega arith) refl c.put.ensures)
