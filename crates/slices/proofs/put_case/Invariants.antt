-- After i turns the record has the first i bytes of the case pasted behind its head; at the end these are all.
use Rattle.std.proofs.Common.{◌≡◌, ◌≤◌, length}
use lib.Seq.{paste}
use Rattle.slices.specs.Records.{case_at}
use Rattle.slices.proofs.put_case.Given as goal

abbrev pub invariant-loop-i : goal.invariant-loop-i
invariant-loop-i l = (l.i ≤ length l.case) × ((length l.judgement ≡ length l.initial.judgement) × (l.judgement ≡ paste l.initial.judgement case_at l.case l.i))
