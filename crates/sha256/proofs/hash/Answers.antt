-- After i turns the state is that of the message's first i whole blocks; what is left after the loop, with its padding, is one or two blocks, which `finish` adds.
use mathlib.Core.Path.{◌≡◌, refl, ap, ◌∙◌}
use mathlib.Core.List.{List, []}
use Prim.Native.Nat.{ℕ, ◌/◌}
use native.Mathlib.Omega.{arith}
use lib.ListN.{length, get_or}
use Rattle.octets.proofs.ChunkLaws.{chunk_at}
use Rattle.sha256.specs.Compression.{compress_from}
use Rattle.sha256.specs.Hash.{blocks}
use Rattle.sha256.proofs.Runs.{onward, whole}
use Rattle.sha256.proofs.hash.Goals as goal

pub loop-block-init : goal.loop-block-init
unfolding blocks
loop-block-init c = c.start-s.ensures

pub loop-block-preserved : goal.loop-block-preserved
loop-block-preserved c =
    let m = c.args.m.now in
    let i = c.loop-block.block-index in
    let block = ap (λ (l : List (List ℕ)). get_or l i []) c.as_chunks.ensures.front ∙ chunk_at 64 (length m / 64) i m [] (omega arith) in
    onward i c.loop-block.s _ m (omega arith) c.loop-block.invariant (c.absorb-s.ensures ∙ ap (compress_from c.loop-block.s) block)

pub returns : goal.returns
returns c =
    let m = c.args.m.now in
    let e : c.loop-block.block-index ≡ length m / 64 = omega arith in
    c.bytes.ensures ∙ whole m _ (length m / 64) c.loop-block.s c.finish.result refl c.as_chunks.ensures.back (rw e at c.loop-block.invariant) c.finish.ensures
