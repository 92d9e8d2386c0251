-- By the kind: digits that were accepted say a number that the bytes hold, or are hexadecimal and as many as there are bytes for.
use mathlib.Core.Path.{refl, ap}
use native.Mathlib.Omega.{arith}
use Rattle.octets.specs.Numbers.{little_bytes}
use Rattle.text.proofs.PenLaws.{text_as}
use Rattle.form.specs.Fields.{accepts, bytes_of, size_of}
use Rattle.form.proofs.FieldLaws.{hex_of, proof_of}
use Rattle.form.proofs.fields.put_digits.Goals as goal

pub value_of-requires : goal.value_of-requires
unfolding accepts
value_of-requires c = rw c.in-Amount.is at c.requires

pub value_of-requires-in-Position : goal.value_of-requires-in-Position
unfolding accepts
value_of-requires-in-Position c = rw c.in-Position.is at c.requires

pub put_bytes-requires : goal.put_bytes-requires
unfolding accepts
put_bytes-requires c = (hex_of _ _ (rw c.in-Hex.is at c.requires)).1

pub put_bytes-requires-in-Proof : goal.put_bytes-requires-in-Proof
unfolding accepts
put_bytes-requires-in-Proof c = (proof_of _ (rw c.in-Proof.is at c.requires)).1

pub returns-in-Amount : goal.returns-in-Amount
unfolding bytes_of size_of
returns-in-Amount c = rw c.in-Amount.is (text_as (omega arith) (ap (little_bytes 8) c.value_of.ensures) c.put_little.ensures)

pub returns-in-Position : goal.returns-in-Position
unfolding bytes_of size_of
returns-in-Position c = rw c.in-Position.is (text_as (omega arith) (ap (little_bytes 4) c.value_of-in-Position.ensures) c.put_little-in-Position.ensures)

pub returns-in-Hex : goal.returns-in-Hex
unfolding accepts bytes_of size_of
returns-in-Hex c =
    let e = (hex_of _ _ (rw c.in-Hex.is at c.requires)).0 in
    rw c.in-Hex.is (text_as (omega arith) refl c.put_bytes.ensures)

pub returns-in-Proof : goal.returns-in-Proof
unfolding accepts bytes_of size_of
returns-in-Proof c =
    let e = (proof_of _ (rw c.in-Proof.is at c.requires)).0 in
    rw c.in-Proof.is (text_as (omega arith) refl c.put_bytes-in-Proof.ensures)
