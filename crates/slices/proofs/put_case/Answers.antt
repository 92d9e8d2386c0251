use Rattle.std.proofs.Common.{◌∙◌, refl, arith}
use lib.ListN.{length-set}
use lib.Seq.{paste-zero}
use Rattle.octets.proofs.PartLaws.{pasting, pasting_done}
use Rattle.slices.specs.Records.{case_at}
use Rattle.slices.proofs.put_case.Goals as goal

pub loop-i-init : goal.loop-i-init
loop-i-init c = (omega arith, (refl, paste-zero c.args.judgement.now case_at c.args.case.now))

pub loop-i-preserved : goal.loop-i-preserved
loop-i-preserved c =
    let v = c.loop-i.invariant in
    (omega arith, (simp length-set v.1.0, pasting c.args.judgement.now c.loop-i.judgement case_at c.args.case.now c.loop-i.i (omega (arith, c.requires)) (omega arith) v.1.1))

pub returns : goal.returns
returns c = c.loop-i.invariant.1.1 ∙ pasting_done c.args.judgement.now case_at c.args.case.now c.loop-i.i (omega arith) c.requires
