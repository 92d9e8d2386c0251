use Rattle.form.specs.Fields.{accepts}
use Rattle.form.proofs.fields.accepts.Goals as goal

pub returns-in-Amount : goal.returns-in-Amount
unfolding accepts
returns-in-Amount c = rw c.in-Amount.is c.is_number.ensures

pub returns-in-Position : goal.returns-in-Position
unfolding accepts
returns-in-Position c = rw c.in-Position.is c.is_number-in-Position.ensures

pub returns-in-Hex : goal.returns-in-Hex
unfolding accepts
returns-in-Hex c = rw c.in-Hex.is c.is_hex.ensures

pub returns-in-Proof : goal.returns-in-Proof
returns-in-Proof c = rw c.in-Proof.is c.is_proof.ensures
