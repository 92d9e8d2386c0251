use Prim.Native.Nat.{◌-◌}
use mathlib.Core.Path.{sym, ap, ◌∙◌}
use native.Mathlib.Omega.{arith}
use lib.Seq.{length-take-le}
use Rattle.form.specs.Lines.{Mark, Ink, from, content_of}
use Rattle.form.proofs.LineLaws.{up_to_is, cut_before, cut_from}
use Rattle.form.proofs.lines.content.Goals as goal

pub returns : goal.returns
unfolding content_of
returns c =
    let l = c.args.line.now in
    let p = c.up_to-end.ensures in
    let q = c.up_to-start.ensures in
    let n = length-take-le (c.up_to-end.result - 0) l (omega (arith, p.within)) in
    cut_from Ink _ _ _ (up_to_is Ink _ _ q.within (λ k l. sym (q.before k l)) (λ l. sym (q.found l))) (omega arith)
    ∙ ap (from Ink) (cut_before Mark l _ (up_to_is Mark _ _ p.within (λ k l. sym (p.before k l)) (λ l. sym (p.found l))))
