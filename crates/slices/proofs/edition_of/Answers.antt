use Rattle.slices.proofs.RecordLaws.{is_first, is_second}
use Rattle.slices.proofs.edition_of.Goals as goal

pub returns-then-case-eq4210 : goal.returns-then-case-eq4210
returns-then-case-eq4210 c = is_first c.args.case.now c.if-case-eq4210.true

pub returns-else-case-eq4210 : goal.returns-else-case-eq4210
returns-else-case-eq4210 c = is_second c.args.case.now c.if-case-eq4210.false
