use mathlib.Core.Path.{ap, ◌∙◌}
use mathlib.Core.List.{◌++◌, append-nil}
use Prim.Native.Nat.{ℕ}
use mathlib.Core.List.{List}
use Rattle.octets.proofs.PartLaws.{field_whole}
use Rattle.sha256.specs.Compression.{compress_of}
use Rattle.sha256.proofs.compress_halves.Goals as goal

pub returns : goal.returns
returns c =
    let a = c.args in
    let block = field_whole 64 _ c.as_flattened.ensures.len ∙ c.as_flattened.ensures.value ∙ ap (λ (x : List ℕ). a.l.now ++ x) (append-nil a.r.now) in
    c.compress.ensures ∙ ap compress_of (c.part-block.ensures ∙ block)
