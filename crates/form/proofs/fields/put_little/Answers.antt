use Prim.Native.Nat.{◌-◌}
use mathlib.Core.Path.{ap, ◌∙◌}
use native.Mathlib.Omega.{arith}
use lib.ListN.{take, length-take}
use Rattle.text.proofs.PenLaws.{text_as}
use Rattle.form.proofs.FieldLaws.{cut_little}
use borrow.Author.Rules.{rules}
use Rattle.form.proofs.fields.put_little.Goals as goal

pub returns : goal.returns
returns c =
    let a = c.args in
    text_as (simp length-take (omega arith)) (ap (take (a.width - 0)) c.le_bytes64-bytes.ensures ∙ cut_little a.width a.n (search rules)) c.put.ensures
