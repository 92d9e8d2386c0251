use Rattle.std.proofs.Common.{◌≡◌, ℕ, ◌+◌, ◌%◌, ◌^◌, ap, arith, get_or}
use lib.ListN.{set}
use Rattle.blake2b.specs.Compression.{plus}
use Rattle.blake2b.proofs.plus.Goals as goal

pub returns : goal.returns
unfolding plus
returns c =
    let a = c.args in
    let v = a.v.now in
    let i = get_or v a.i 0 in
    let j = get_or v a.j 0 in
    let sum : ((i + j) % 2 ^ 64 + a.x) % 2 ^ 64 ≡ (i + j + a.x) % 2 ^ 64 = omega arith in
    ap (λ (x : ℕ). set v a.i x) sum
