use mathlib.Core.Path.{◌≡◌, ap, ◌∙◌}
use Prim.Native.Nat.{◌*◌, ◌%◌, ◌^◌}
use native.Mathlib.Omega.{arith}
use Rattle.std.specs.Int.{w64}
use Rattle.octets.specs.Numbers.{big_bytes}
use Rattle.octets.proofs.NumberLaws.{big_bytes_mod}
use Rattle.octets.proofs.WordLaws.{big_to}
use Rattle.sha256.proofs.length_field.Goals as goal

pub returns : goal.returns
returns c =
    let n = c.args.n in
    let e : n * 8 % 2 ^ 64 ≡ 8 * n % 256 ^ 8 = omega arith in
    c.to_be_bytes.ensures ∙ big_to w64 _ ∙ ap (big_bytes 8) e ∙ big_bytes_mod 8 (8 * n)
