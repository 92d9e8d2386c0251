-- After i turns the state is that of the message's first i blocks; all blocks but the last one are turns, and the last one, padded and marked, is the law `final_block`.
use Rattle.std.proofs.Common.{◌≡◌, ℕ, ◌/◌, ◌*◌, ◌+◌, List, [], false, length, get_or, take, refl, ap, ◌∙◌, arith}
use lib.Seq.{get_or-take, length-take-le}
use Rattle.octets.proofs.ChunkLaws.{chunk_at}
use Rattle.blake2b.specs.Compression.{F}
use Rattle.blake2b.specs.Hashing.{blocks}
use Rattle.blake2b.proofs.Runs.{next_block, final_block}
use Rattle.blake2b.proofs.absorb.Goals as goal

pub loop-i-init : goal.loop-i-init
unfolding blocks
loop-i-init c = refl

pub loop-i-preserved : goal.loop-i-preserved
loop-i-preserved c =
    let m = c.args.m.now in
    let i = c.loop-i.i in
    let q = c.last_block-q.result in
    let all = c.as_chunks.result.0.now in
    let l : length (take q all) ≡ q = length-take-le q all (omega arith) in
    let block = get_or-take q all i [] (omega arith) ∙ ap (λ (s : List (List ℕ)). get_or s i []) c.as_chunks.ensures.front ∙ chunk_at 128 (length m / 128) i m [] (omega arith) in
    next_block i c.args.h0 c.loop-i.h c.compress-h.result m (omega arith) c.loop-i.invariant (c.compress-h.ensures ∙ ap (λ (b : List ℕ). F c.loop-i.h b (128 * (i + 1)) false) block)

pub returns : goal.returns
returns c =
    let q = c.last_block-q.result in
    let all = c.as_chunks.result.0.now in
    let l : length (take q all) ≡ q = length-take-le q all (omega arith) in
    let e : c.loop-i.i ≡ q = omega arith in
    final_block q _ c.loop-i.h _ _ c.args.m.now c.last_block-q.ensures (rw e at c.loop-i.invariant) c.part-b.ensures c.compress.ensures
