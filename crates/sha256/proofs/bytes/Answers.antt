use mathlib.Core.Path.{◌≡◌, ap, ◌∙◌}
use native.Mathlib.Nat.{div-one}
use Rattle.octets.specs.Parts.{field}
use Rattle.octets.specs.Numbers.{big_bytes}
use Rattle.octets.proofs.PartLaws.{field_all}
use Rattle.sha256.specs.Compression.{state_bytes}
use Rattle.sha256.proofs.bytes.Goals as goal

pub returns : goal.returns
unfolding state_bytes big_bytes
returns c =
    let s = c.args.s in
    let words : c.as_flattened.result.now ≡ state_bytes s =
    rw
    (c.as_flattened.ensures.value, c.to_be_bytes.ensures, c.to_be_bytes-2.ensures, c.to_be_bytes-3.ensures, c.to_be_bytes-4.ensures, c.to_be_bytes-5.ensures, c.to_be_bytes-6.ensures, c.to_be_bytes-7.ensures, c.to_be_bytes-8.ensures)
    (simp div-one) in
    c.part.ensures ∙ ap (field 0 32) words ∙ field_all (state_bytes s)
