-- After i turns the array has the first i words of the block and zeros behind them; after 16 turns it is full.
use Rattle.std.proofs.Common.{◌≡◌, ℕ, ◌*◌, List, [], get_or, refl, sym, ap, ◌∙◌, arith}
use Rattle.std.specs.Int.{w64, from_le_bytes}
use Rattle.octets.specs.Parts.{listed, field}
use Rattle.octets.proofs.ChunkLaws.{chunk_at}
use Rattle.octets.proofs.Filling.{next, full}
use Rattle.octets.proofs.PartLaws.{field_part, field_length}
use Rattle.octets.proofs.WordLaws.{little_from}
use Rattle.blake2b.specs.Compression.{word_at}
use Rattle.blake2b.proofs.words.Goals as goal

pub loop-i-init : goal.loop-i-init
unfolding listed
loop-i-init c = record { long = refl; made = refl }

pub loop-i-preserved : goal.loop-i-preserved
unfolding word_at
loop-i-preserved c =
    let b = c.args.b.now in
    let i = c.loop-i.i in
    let n : i * 8 ≡ 8 * i = omega arith in
    let bytes = ap (λ (l : List (List ℕ)). get_or l i []) c.as_chunks.ensures.front ∙ chunk_at 8 _ i b [] (omega arith) ∙ sym (field_part (i * 8) 8 b (omega arith)) ∙ ap (λ (k : ℕ). field k 8 b) n in
    let word = c.from_le_bytes.ensures ∙ ap (from_le_bytes w64) bytes ∙ little_from w64 _ (field_length (8 * i) 8 b) in
    next _ 16 i c.loop-i.w _ (omega arith) c.loop-i.invariant word

pub returns : goal.returns
returns c = full _ 16 c.loop-i.i c.loop-i.w (omega arith) c.loop-i.invariant
