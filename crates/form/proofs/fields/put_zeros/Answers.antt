use native.Mathlib.Omega.{arith}
use lib.ListN.{length-take}
use Rattle.text.proofs.PenLaws.{text_as}
use Rattle.form.proofs.FieldLaws.{cut_zeros}
use borrow.Author.Rules.{rules}
use Rattle.form.proofs.fields.put_zeros.Goals as goal

pub returns : goal.returns
returns c = text_as (simp length-take (omega arith)) (cut_zeros c.args.n 128 (search rules)) c.put.ensures
