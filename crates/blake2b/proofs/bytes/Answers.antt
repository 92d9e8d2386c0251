-- The state's bytes are its words' bytes in a row; of the first n of them an array is made, with zeros behind.
use Rattle.std.proofs.Common.{◌≡◌, ℕ, ◌-◌, ◌++◌, List, length, ap, ◌∙◌, sym, arith}
use lib.ListN.{take}
use lib.Seq.{length-take-le, take_all}
use Rattle.std.specs.Int.{w64}
use Rattle.octets.specs.Parts.{field, zeros}
use Rattle.octets.proofs.PartLaws.{field_padded, field_begins}
use Rattle.octets.proofs.WordLaws.{little_to}
use Rattle.blake2b.specs.Compression.{bytes_of}
use Rattle.blake2b.proofs.StateBytes.{eight}
use Rattle.blake2b.proofs.bytes.Goals as goal

pub returns : goal.returns
returns g c =
    let h = c.args.h.now in
    let n = c.args.n in
    let f = c.as_flattened.result.now in
    let all : f ≡ bytes_of h =
    c.as_flattened.ensures.value
    ∙ rw
    (c.to_le_bytes.ensures ∙ little_to w64 _, c.to_le_bytes-2.ensures ∙ little_to w64 _, c.to_le_bytes-3.ensures ∙ little_to w64 _, c.to_le_bytes-4.ensures ∙ little_to w64 _, c.to_le_bytes-5.ensures ∙ little_to w64 _, c.to_le_bytes-6.ensures ∙ little_to w64 _, c.to_le_bytes-7.ensures ∙ little_to w64 _, c.to_le_bytes-8.ensures ∙ little_to w64 _)
    (eight h c.told-h) in
    let l : length (take n f) ≡ n = length-take-le n f (omega arith) in
    c.part.ensures ∙ field_padded 0 g.row.N n (take n f) (omega arith) (omega arith) (λ h. omega arith)
    ∙ ap (λ (x : List ℕ). x ++ zeros (g.row.N - n)) (take_all n (take n f) (omega arith) ∙ sym (field_begins 0 n f (omega arith)) ∙ ap (field 0 n) all)
