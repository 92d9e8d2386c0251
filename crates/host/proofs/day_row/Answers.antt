use mathlib.Core.Path.{◌≡◌, refl, ap, ◌∙◌}
use native.Mathlib.Omega.{arith}
use lib.ListN.{length}
use Rattle.octets.proofs.NumberLaws.{little_bytes_length, little_bytes_mod}
use Rattle.octets.proofs.Joining.{start, next, done}
use Rattle.host.specs.Books.{day_row}
use Rattle.host.proofs.day_row.Goals as goal

pub returns : goal.returns
unfolding day_row
returns c =
    let hf : length c.le_bytes32-front.result ≡ 4 = ap length c.le_bytes32-front.ensures ∙ little_bytes_length 4 _ in
    let hb : length c.le_bytes16-behind.result ≡ 2 = ap length c.le_bytes16-behind.ensures ∙ little_bytes_length 2 _ in
    let l1 = next c.le_bytes32-front.result _ 4 2 (omega arith) (omega arith) c.copy_in.ensures.dst_after (start _ 6 refl) in
    done (next c.le_bytes16-behind.result _ 6 0 (omega arith) (omega arith) c.copy_in-2.ensures.dst_after l1)
    ∙ rw (c.le_bytes32-front.ensures, c.le_bytes16-behind.ensures, little_bytes_mod 2 c.args.answer)
