-- By what reading gave: a draft stands at the start of its page, and has a case's length; a fault is its own line.
use mathlib.Core.Path.{sym, ap, ◌∙◌}
use native.Mathlib.Omega.{arith}
use lib.ListN.{length}
use Rattle.octets.specs.Parts.{zeros}
use Rattle.octets.proofs.PartLaws.{zeros_length}
use Rattle.text.proofs.PenLaws.{text_as}
use Rattle.form.proofs.DraftLaws.{begins}
use Rattle.writing.specs.Printed.{case_text}
use Rattle.writing.proofs.PrintedLaws.{of_draft, of_fault}
use Rattle.writing.proofs.put_form.Goals as goal

pub put_case-requires : goal.put_case-requires
put_case-requires c =
    let b = begins _ (zeros 4210) _ (zeros_length 4210) (rw c.new-draft.ensures at c.read.ensures.wrote) in
    omega (arith, ap length (c.text.ensures ∙ b.text), b.short)

pub returns-in-Ok : goal.returns-in-Ok
returns-in-Ok c =
    let b = begins _ (zeros 4210) _ (zeros_length 4210) (rw c.new-draft.ensures at c.read.ensures.wrote) in
    text_as (omega arith) (ap case_text (c.text.ensures ∙ b.text) ∙ of_draft _ (sym c.read.ensures.value ∙ c.in-Ok.is)) c.put_case.ensures

pub returns-in-Err : goal.returns-in-Err
returns-in-Err c = text_as (omega arith) (of_fault _ _ (sym c.read.ensures.value ∙ c.in-Err.is)) c.put_fault.ensures
