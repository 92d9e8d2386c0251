use mathlib.Core.Path.{refl, sym, ◌∙◌}
use Rattle.form.specs.Fields.{accepts}
use Rattle.form.proofs.fields.is_proof.Goals as goal

pub returns-then-is_hex : goal.returns-then-is_hex
unfolding accepts
returns-then-is_hex c = rw (c.if-is_hex.true, sym c.is_hex.ensures ∙ c.if-is_hex.true) refl

pub returns-else-is_hex : goal.returns-else-is_hex
unfolding accepts
returns-else-is_hex c = rw (sym c.is_hex.ensures ∙ c.if-is_hex.false) c.is_hex-else-is_hex.ensures
