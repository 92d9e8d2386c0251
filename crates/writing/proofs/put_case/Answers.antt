-- The array's first bytes, as many as the draft has, are the buffer that the desk gets; a case that it wrote is cut out of the array again.
use Prim.Native.Nat.{ℕ, ◌≤◌}
use mathlib.Core.Path.{◌≡◌, sym, ap, ◌∙◌}
use mathlib.Core.List.{List, ◌++◌}
use native.Mathlib.Omega.{arith}
use lib.ListN.{length, take, drop}
use lib.Seq.{length-take-le}
use Rattle.octets.specs.Parts.{zeros}
use Rattle.octets.proofs.PartLaws.{zeros_length}
use Rattle.text.specs.Words.{ascii}
use Rattle.text.specs.Answers.{answer_line}
use Rattle.text.proofs.PenLaws.{then, text_as}
use Rattle.writing.proofs.PrintedLaws.{front, accepted_case, refused_case}
use Rattle.writing.proofs.put_case.Goals as goal

lent : (n : ℕ) → n ≤ 4210 → length (take n (zeros 4210)) ≡ n
lent n h = length-take-le n (zeros 4210) (omega (arith, h, zeros_length 4210))

pub returns-then-is_accepted : goal.returns-then-is_accepted
returns-then-is_accepted c =
    let n = length c.args.draft.now in
    let f = front c.write.new.buffer (drop n (zeros 4210)) n (c.write.auto.buffer ∙ lent n c.requires) in
    text_as (omega (arith, f.long, c.requires))
    (ap (λ (m : List ℕ). answer_line (ascii "desk") c.from-a.result ++ m) f.text
    ∙ accepted_case _ _ _ _ (lent n c.requires) (c.from-a.ensures ∙ c.write.ensures.value) c.write.ensures.buffer_after (sym c.is_accepted.ensures ∙ c.if-is_accepted.true))
    (then c.put_answer_line.ensures c.put.ensures)

pub returns-else-is_accepted : goal.returns-else-is_accepted
returns-else-is_accepted c =
    text_as (omega arith)
    (refused_case _ _ _ _ (lent _ c.requires) (c.from-a.ensures ∙ c.write.ensures.value) c.write.ensures.buffer_after (sym c.is_accepted.ensures ∙ c.if-is_accepted.false))
    c.put_answer_line.ensures
