use mathlib.Core.Path.{sym, ap, ◌∙◌}
use native.Mathlib.Omega.{arith}
use Rattle.text.proofs.PenLaws.{then, text_as}
use Rattle.scanning.specs.Lines.{case_lines}
use Rattle.scanning.proofs.LineLaws.{take_min, lines_bag, lines_seal, lines_all}
use borrow.Author.Rules.{rules}
use Rattle.scanning.proofs.put_scan.Goals as goal

pub returns-then-not-is_accepted : goal.returns-then-not-is_accepted
returns-then-not-is_accepted c = text_as (omega arith) (lines_bag _ _ (sym c.is_accepted.ensures ∙ c.if-not-is_accepted.true)) c.put_answer_line.ensures

pub returns-then-is_accepted : goal.returns-then-is_accepted
returns-then-is_accepted c =
    let s = c.args.s in
    text_as (omega arith) (lines_all _ _ (sym c.is_accepted.ensures ∙ c.if-not-is_accepted.false) (sym c.is_accepted-2.ensures ∙ c.if-is_accepted.true))
    (then (then c.put_answer_line-2.ensures (text_as {b = 504} (omega arith) (ap (case_lines c.args.rows) (rw c.min-n.ensures (take_min s.cases 7 s.answers (search rules)))) c.put_cases.ensures)) c.put_ledger.ensures)

pub returns-else-is_accepted : goal.returns-else-is_accepted
returns-else-is_accepted c =
    text_as (omega arith) (lines_seal _ _ (sym c.is_accepted.ensures ∙ c.if-not-is_accepted.false) (sym c.is_accepted-2.ensures ∙ c.if-is_accepted.false)) c.put_answer_line-2.ensures
