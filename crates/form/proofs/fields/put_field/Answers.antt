use mathlib.Core.Path.{ap, ap₂, ◌∙◌}
use mathlib.Core.List.{◌++◌}
use native.Mathlib.Omega.{arith}
use Rattle.octets.specs.Parts.{zeros}
use Rattle.text.proofs.PenLaws.{then, text_as}
use Rattle.form.specs.Fields.{accepts, bytes_of, size_of, field_bytes}
use Rattle.form.proofs.FieldLaws.{gap_short, in_table, accepted}
use Rattle.form.proofs.fields.put_field.Goals as goal

pub entry-gap-requires : goal.entry-gap-requires
entry-gap-requires c = in_table _ _ c.requires.1

pub put_zeros-requires : goal.put_zeros-requires
put_zeros-requires c = omega (arith, c.entry-gap.ensures.gap, gap_short _ (in_table _ _ c.requires.1))

pub put_digits-requires : goal.put_digits-requires
put_digits-requires c = ap₂ accepts c.entry-gap.ensures.kind (c.text.ensures ∙ c.put_value.ensures.text) ∙ accepted _ _ c.requires.1

pub returns : goal.returns
unfolding field_bytes
returns c =
    text_as (omega (arith, c.entry-gap.ensures.gap, ap (size_of 296) c.entry-gap.ensures.kind))
    (ap₂ ◌++◌ (ap zeros c.entry-gap.ensures.gap) (ap₂ bytes_of c.entry-gap.ensures.kind (c.text.ensures ∙ c.put_value.ensures.text))) (then c.put_zeros.ensures c.put_digits.ensures)
