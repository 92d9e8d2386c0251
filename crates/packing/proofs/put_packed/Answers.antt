use Rattle.std.proofs.Common.{sym, ap, ◌∙◌, arith}
use Rattle.text.proofs.PenLaws.{then, text_as}
use Rattle.packing.specs.Packing.{is_packed}
use Rattle.packing.proofs.TextLaws.{text_packed, text_refused}
use Rattle.packing.proofs.VerdictLaws.{ready}
use Rattle.packing.proofs.put_packed.Goals as goal

pub put_bag-requires : goal.put_bag-requires
put_bag-requires c =
    let s = ready c.args.kind c.case_count-cases.result c.args.line.now c.args.bytes.now (ap is_packed (sym c.verdict.ensures ∙ c.in-Ok.is)) in record {
      kind_bound = c.requires;
      cases_bound = s.few;
      line_value = s.named;
      bytes_bound = s.short;
    }

pub returns-in-Ok : goal.returns-in-Ok
returns-in-Ok c = rw (← c.case_count-cases.ensures) (text_as (omega arith) (text_packed _ _ _ _ (sym c.verdict.ensures ∙ c.in-Ok.is)) (then c.put.ensures c.put_bag.ensures))

pub returns-in-Err : goal.returns-in-Err
returns-in-Err c = rw (← c.case_count-cases.ensures) (text_as (omega arith) (text_refused _ _ _ _ _ (sym c.verdict.ensures ∙ c.in-Err.is)) c.put_error.ensures)
