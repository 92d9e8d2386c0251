use mathlib.Core.Path.{◌≡◌, ap, ◌∙◌}
use native.Mathlib.Omega.{arith}
use lib.ListN.{length}
use Rattle.octets.proofs.NumberLaws.{big_bytes_length}
use Rattle.text.specs.Hex.{hex, hex64}
use Rattle.text.proofs.PenLaws.{text_as}
use Rattle.text.proofs.Page.put_hex64.Goals as goal

pub returns : goal.returns
unfolding hex64
returns g c =
    let e = c.be_bytes64.ensures in
    let l : length c.be_bytes64.result ≡ 8 = ap length e ∙ big_bytes_length 8 _ in
    text_as (omega arith) (ap hex e) c.put_hex.ensures
