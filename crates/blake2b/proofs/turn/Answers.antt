use Rattle.std.proofs.Common.{◌∙◌, ap, get_or, arith, ℕ}
use Rattle.std.proofs.lemmas.Nat.{xor_lt}
use lib.ListN.{set}
use Rattle.blake2b.specs.Compression.{turn}
use Rattle.blake2b.proofs.Rotation.{rotated}
use Rattle.blake2b.proofs.turn.Goals as goal

pub returns : goal.returns
unfolding turn
returns c =
    let a = c.args in
    let v = a.v.now in
    let fits = xor_lt 64 (get_or v a.i 0) (get_or v a.j 0) (c.fits-v a.i) (c.fits-v a.j) in
    ap (λ (x : ℕ). set v a.i x) (c.rotate_right.ensures ∙ rotated a.n _ (omega arith) (omega arith) fits)
