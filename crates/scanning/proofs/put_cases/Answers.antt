use Rattle.std.proofs.Common.{ap, arith}
use mathlib.Core.List.{flat_map}
use lib.Seq.{take_all}
use Rattle.text.proofs.PenLaws.{start, one_more, text_as}
use Rattle.scanning.specs.Lines.{case_text, case_lines}
use Rattle.scanning.proofs.put_cases.Goals as goal

pub loop-a-init : goal.loop-a-init
unfolding case_lines flat_map
loop-a-init c = start _

pub loop-a-preserved : goal.loop-a-preserved
unfolding case_lines
loop-a-preserved c = one_more (case_text c.args.rows) c.args.answers.now c.loop-a.a-index _ (omega arith) c.loop-a.invariant c.put_case.ensures

pub returns : goal.returns
returns c =
    let a = c.args in
    text_as (omega (arith, c.requires)) (ap (case_lines a.rows) (take_all c.loop-a.a-index a.answers.now (omega arith))) c.loop-a.invariant
