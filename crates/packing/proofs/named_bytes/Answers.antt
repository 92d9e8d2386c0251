-- After i turns total is the sum of the first i lengths, each of which is below 10^15.
use Rattle.std.proofs.Common.{◌≡◌, ℕ, ◌^◌, ◌<◌, refl, ap, ◌∙◌, arith, rules}
use Rattle.packing.specs.Decimals.{length_of}
use Rattle.packing.specs.Packing.{sizes_from, sum}
use Rattle.packing.proofs.DecimalLaws.{length_below, length_or_0}
use Rattle.packing.proofs.SizeLaws.{total_more}
use Rattle.packing.proofs.named_bytes.Goals as goal

pub loop-i-init : goal.loop-i-init
unfolding sizes_from sum
loop-i-init c = (search rules, (search rules, (search rules, (search rules, refl))))

pub overflow_add-total : goal.overflow_add-total
overflow_add-total c = let below : c.unwrap_or-total.result < 10 ^ 15 = rw (c.unwrap_or-total.ensures, c.length_in.ensures, length_or_0 c.word.result.now) (length_below _) in omega arith

pub loop-i-preserved : goal.loop-i-preserved
loop-i-preserved c =
    let a = c.args in
    let v = c.loop-i.invariant.1 in
    let e : c.unwrap_or-total.result ≡ length_of _ = c.unwrap_or-total.ensures ∙ rw c.length_in.ensures (length_or_0 c.word.result.now) ∙ ap length_of c.word.ensures in
    (search rules, (v.0, (v.1.0, (let below : c.unwrap_or-total.result < 10 ^ 15 = rw (c.unwrap_or-total.ensures, c.length_in.ensures, length_or_0 c.word.result.now) (length_below _) in omega arith, omega (arith, e, v.1.1.1, total_more c.loop-i.i a.k a.line.now)))))

pub returns : goal.returns
returns c =
    let a = c.args in
    let e : c.loop-i.i ≡ a.n = omega arith in
    c.loop-i.invariant.1.1.1.1 ∙ ap (λ (i : ℕ). sum (sizes_from i a.k a.line.now)) e
