use mathlib.Core.Path.{◌≡◌, ap, ◌∙◌}
use native.Mathlib.Omega.{arith}
use Prim.Native.Nat.{◌*◌}
use lib.ListN.{length}
use Rattle.octets.specs.Numbers.{big_bytes}
use Rattle.octets.proofs.NumberLaws.{big_bytes_length}
use Rattle.sha256.proofs.Ends.{ending, ending_length}
use Rattle.sha256.proofs.fill_last.Goals as goal

pub shape_of-t : goal.shape_of-t
shape_of-t c = ending_length _ _ _ _ _ _ _ 0x80 c.copy_in.ensures.dst_after c.copy_in-2.ensures.dst_after

pub returns : goal.returns
returns c =
    let a = c.args in
    let e : c.length_field.result ≡ big_bytes 8 (8 * a.n) = c.length_field.ensures in
    let l : length c.length_field.result ≡ 8 = ap length e ∙ big_bytes_length 8 (8 * a.n) in
    rw (← e) (ending a.rest.now c.length_field.result a.t.now _ _ 0x80 l (omega arith) c.requires.1 c.copy_in.ensures.dst_after c.copy_in-2.ensures.dst_after)
