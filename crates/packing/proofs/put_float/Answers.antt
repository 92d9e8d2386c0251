use Rattle.std.proofs.Common.{ℕ, Option, ap, ◌∙◌, arith}
use Rattle.std.specs.Option.{unwrap_or}
use Rattle.text.proofs.PenLaws.{text_as}
use Rattle.packing.proofs.FloatLaws.{number_or_0}
use Rattle.packing.proofs.TextLaws.{float_as}
use Rattle.packing.proofs.put_float.Goals as goal

pub returns : goal.returns
returns c = text_as (omega arith) (float_as _ (c.unwrap_or.ensures ∙ ap (λ (o : Option ℕ). unwrap_or o 0) c.number_in.ensures ∙ number_or_0 _) c.le_bytes64.ensures) c.put.ensures
