use Rattle.std.proofs.Common.{ℕ, ap, arith}
use mathlib.Core.List.{flat_map}
use lib.Seq.{take_all}
use borrow.Author.Rules.{rules}
use Rattle.text.specs.Hex.{hex_byte, hex}
use Rattle.text.proofs.HexLaws.{digits_as}
use Rattle.text.proofs.PenLaws.{start, one_more, then, text_as}
use Rattle.text.proofs.Page.put_hex.Goals as goal

pub loop-x-init : goal.loop-x-init
unfolding hex flat_map
loop-x-init g c = (rw (← c.self.view_is) (start _), c.self.invariant)

pub loop-x-preserved : goal.loop-x-preserved
unfolding hex
loop-x-preserved g c =
    let v = c.loop-x.invariant in
    let two = text_as (omega arith) (digits_as _ _ _ (search rules) c.low_digit.ensures c.low_digit-in-loop-x.ensures) (then c.ink-next.ensures.wrote c.ink-at.ensures.wrote) in
    (one_more {A = ℕ} hex_byte c.args.bytes.now c.loop-x.x-index 0 (omega arith) v.0 two, omega (arith, c.ink-at.ensures.within (omega (arith, c.ink-next.ensures.within (omega (arith, v.1))))))

pub returns : goal.returns
returns g c = text_as (omega arith) (ap hex (take_all c.loop-x.x-index c.args.bytes.now (omega arith))) c.loop-x.invariant.0

pub invariant_of-self : goal.invariant_of-self
invariant_of-self g c = c.loop-x.invariant.1
