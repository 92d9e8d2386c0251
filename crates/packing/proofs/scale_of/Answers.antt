use Rattle.std.proofs.Common.{ℕ, ◌^◌, ◌≤◌, List, length, ap, ◌∙◌, arith}
use native.Mathlib.Nat.{pow-le-pow_right}
use Rattle.packing.specs.Decimals.{scale_of}
use Rattle.packing.proofs.DecimalLaws.{well_formed}
use Rattle.packing.proofs.scale_of.Goals as goal

pub overflow_cast-behind : goal.overflow_cast-behind
overflow_cast-behind c = rw c.behind.ensures (omega (arith, (well_formed c.args.u.now c.requires).few))

pub pow-requires : goal.pow-requires
pow-requires c =
    let k = length c.behind.result.now in
    let h : k ≤ 15 = rw c.behind.ensures (omega (arith, (well_formed c.args.u.now c.requires).few)) in
    let l : 10 ^ k ≤ 10 ^ 15 = pow-le-pow_right {n = 10} (omega arith) {i = k} {j = 15} h in
    omega (arith, l)

pub returns : goal.returns
unfolding scale_of
returns c = c.pow.ensures ∙ ap (λ (s : List ℕ). 10 ^ length s) c.behind.ensures
