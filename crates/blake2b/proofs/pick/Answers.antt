use Rattle.std.proofs.Common.{◌≡◌, ℕ, ap, refl, arith, get_or, ◌%◌, []}
use Rattle.blake2b.specs.Compression.{rows, sigma, picked}
use Rattle.blake2b.proofs.Order.{below}
use Rattle.blake2b.proofs.pick.Goals as goal

pub returns : goal.returns
unfolding picked rows sigma
returns c =
    let k = get_or (get_or sigma c.args.i []) c.args.j 0 in
    let e : k % 16 ≡ k = omega (arith, below sigma refl c.args.i c.args.j) in
    ap (λ (n : ℕ). get_or c.args.m.now n 0) e
