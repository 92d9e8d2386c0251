-- What is left is that a turn adds the next byte; a list of texts of one byte each is the bytes themselves.
use Rattle.std.proofs.Common.{ℕ, [], ◌∷◌, ◌∙◌, take, arith}
use mathlib.Core.List.{flat_map}
use lib.Seq.{take_all}
use Rattle.text.proofs.PenLaws.{start, one_more, each_byte, text_as}
use Rattle.text.proofs.Page.put.Goals as goal

pub loop-x-init : goal.loop-x-init
unfolding flat_map
loop-x-init g c = (rw (← c.self.view_is) (start _), c.self.invariant)

pub loop-x-preserved : goal.loop-x-preserved
loop-x-preserved g c =
    let v = c.loop-x.invariant in
    (one_more {A = ℕ} (λ x. x ∷ []) c.args.words.now c.loop-x.x-index 0 (omega arith) v.0 c.ink-at.ensures.wrote, omega (arith, c.ink-at.ensures.within (omega (arith, v.1))))

pub returns : goal.returns
returns g c =
    let t = c.args.words.now in
    text_as (omega arith) (each_byte (take c.loop-x.x-index t) ∙ take_all c.loop-x.x-index t (omega arith)) c.loop-x.invariant.0

pub invariant_of-self : goal.invariant_of-self
invariant_of-self g c = c.loop-x.invariant.1
